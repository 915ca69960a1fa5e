pub mod Lists
pub mod Shapes
pub mod Flat
pub mod Lines
pub mod Edits
pub mod Placed
