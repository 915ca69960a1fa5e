pub mod Chosen
pub mod Runs
mod Rows
