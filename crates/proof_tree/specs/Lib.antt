pub mod Bounds
pub mod Meaning
pub mod Chains
pub mod Places
pub mod Stacks
