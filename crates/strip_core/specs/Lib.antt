pub mod Meaning
pub mod Drafts
pub mod Trees
pub mod Descents
