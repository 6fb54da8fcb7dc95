pub mod Queue
pub mod Steps
pub mod Laws
pub mod Cases
