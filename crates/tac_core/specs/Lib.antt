pub mod Own
pub mod Introduced
pub mod Exacts
pub mod Destructs
