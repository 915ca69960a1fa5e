pub mod Steps
pub mod Told
pub mod Choices
pub mod Cancels
