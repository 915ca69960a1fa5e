pub mod Verdicts
pub mod Refusals
pub mod Proofs
pub mod Standing
pub mod Steps
pub mod Back
