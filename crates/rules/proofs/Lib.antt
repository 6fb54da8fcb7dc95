pub mod Figures
pub mod Fitness
pub mod Idle
pub mod Laws
pub mod ServerKept
pub mod WaitingLaws
pub mod Says
