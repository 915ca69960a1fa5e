pub mod Moves
pub mod Tables
pub mod Changes
pub mod Indices
