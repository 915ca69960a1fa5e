pub mod Meaning
pub mod Layers
pub mod Rows
pub mod Weights
pub mod Summaries
pub mod Filled
pub mod Sorts
