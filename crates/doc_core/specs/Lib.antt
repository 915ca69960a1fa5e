pub mod Pieces
pub mod Answers
pub mod Histories
pub mod Kept
