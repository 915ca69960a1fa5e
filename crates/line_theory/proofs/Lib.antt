pub mod Lists
pub mod Folded
pub mod Placed
pub mod Words
pub mod Removals
pub mod Flat
pub mod Before
mod Rows
