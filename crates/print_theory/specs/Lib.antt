pub mod Apart
pub mod Names
pub mod Printing
pub mod Reading
pub mod Spelling
pub mod Trees
pub mod Typed
