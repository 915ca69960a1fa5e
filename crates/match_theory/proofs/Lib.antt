pub mod Equal
pub mod Solved
pub mod Matched
pub mod Once
pub mod Placed
pub mod Occurring
mod Rows
