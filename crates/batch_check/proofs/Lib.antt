pub mod Putting
pub mod Reading
pub mod Taking
pub mod Answering
pub mod Concluded
pub mod Standing
pub mod Derived
pub mod InPlace
