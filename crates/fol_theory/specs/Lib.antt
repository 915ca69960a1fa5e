pub mod Syntax
pub mod Substitution
pub mod Measures
pub mod Printing
pub mod Contexts
pub mod Slots
