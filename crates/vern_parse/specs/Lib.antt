pub mod Answers
pub mod Meaning
pub mod Pieces
pub mod Sentences
pub mod Sources
