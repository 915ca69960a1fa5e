pub mod Counts
pub mod Memory
pub mod Output
pub mod Standard
