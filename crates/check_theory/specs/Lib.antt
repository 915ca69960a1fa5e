pub mod Pieces
pub mod Language
pub mod Read
pub mod Proved
