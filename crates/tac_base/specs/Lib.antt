pub mod Faults
pub mod Sites
pub mod Openings
pub mod Low
pub mod Tops
pub mod Given
pub mod Steps
