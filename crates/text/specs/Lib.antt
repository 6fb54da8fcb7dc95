pub mod Decimal
pub mod Lines
pub mod Ends
pub mod ReadBack
pub mod Printing
pub mod Cases
pub mod Buffer
