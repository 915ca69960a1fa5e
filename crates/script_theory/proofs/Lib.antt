pub mod Kept
pub mod Closed
mod Rows
