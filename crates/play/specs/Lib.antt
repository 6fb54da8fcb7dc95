pub mod Numbers
pub mod Calls
pub mod Report
pub mod Laws
pub mod Promise
pub mod Cases
