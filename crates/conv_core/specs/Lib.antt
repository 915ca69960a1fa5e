pub mod Frames
pub mod Heads
pub mod Formulas
pub mod Outcomes
pub mod Pairs
