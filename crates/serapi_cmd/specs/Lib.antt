pub mod Faults
pub mod Numbers
pub mod Fields
pub mod Options
pub mod Words
pub mod Meanings
pub mod Commands
pub mod Requests
