pub mod Numbers
pub mod Batch
pub mod Report
pub mod Run
pub mod Puts
pub mod Ends
pub mod Derived
pub mod Headline
