pub mod Closed
pub mod Finish
pub mod Laws
pub mod Places
pub mod Runs
pub mod Sound
mod Table
