pub mod Evidence
pub mod Names
pub mod Patterns
pub mod Reading
pub mod Sentences
pub mod Slots
pub mod Trees
pub mod Words
