pub mod Derivations
pub mod Goals
pub mod Grafts
pub mod Named
pub mod Proofs
pub mod Rules
