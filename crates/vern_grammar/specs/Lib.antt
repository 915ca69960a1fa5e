pub mod Grammar
pub mod Kinds
pub mod Levels
pub mod Machine
pub mod Trees
