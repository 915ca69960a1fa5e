pub mod Sizes
pub mod Sentences
pub mod Kept
