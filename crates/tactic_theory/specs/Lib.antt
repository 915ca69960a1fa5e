pub mod Names
pub mod Faults
pub mod Evidence
pub mod Strips
pub mod Refinements
pub mod Typing
pub mod States
