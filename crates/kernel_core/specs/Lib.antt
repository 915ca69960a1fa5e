pub mod Sites
pub mod Stacks
