pub mod Adding
pub mod Grown
pub mod Lines
pub mod Replies
pub mod Scripts
pub mod Theory
