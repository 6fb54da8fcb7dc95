pub mod Least
pub mod Demand
pub mod Terms
pub mod Admission
pub mod Cases
