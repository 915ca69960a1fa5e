mod Numbers
mod Putting
mod Inverse
mod Told
pub mod Fitted
mod Readings
