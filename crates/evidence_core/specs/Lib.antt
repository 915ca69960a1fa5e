pub mod Trees
pub mod Pairs
pub mod Showings
pub mod Meaning
pub mod Places
pub mod Answers
