pub mod Scoped
pub mod Steps
pub mod Elements
pub mod Tops
pub mod Limits
pub mod Compares
pub mod Splits
