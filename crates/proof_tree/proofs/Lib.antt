pub mod Grafted
pub mod Indices
pub mod Labelled
pub mod Links
pub mod Rows
pub mod Stacked
