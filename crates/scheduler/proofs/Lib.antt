pub mod Answers
pub mod Ask
pub mod Due
pub mod Known
pub mod Laws
pub mod Runs
pub mod Together
