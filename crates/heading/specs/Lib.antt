pub mod Heading
pub mod Cases
pub mod Rooms
pub mod Laws
