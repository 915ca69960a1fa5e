pub mod Taken
pub mod Leaves
pub mod Measured
pub mod Bounded
pub mod Opened
pub mod Answered
pub mod Paired
