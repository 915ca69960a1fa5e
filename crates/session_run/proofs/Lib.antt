pub mod Progress
pub mod Grown
pub mod Concluded
