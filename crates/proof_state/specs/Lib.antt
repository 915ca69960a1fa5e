pub mod Marks
pub mod Sequents
pub mod Frames
pub mod Faults
pub mod Goals
pub mod Leaves
pub mod States
