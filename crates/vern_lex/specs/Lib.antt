pub mod Closers
pub mod Comments
pub mod Sentences
pub mod Tokens
