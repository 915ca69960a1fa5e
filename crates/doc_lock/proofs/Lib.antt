pub mod Ends
pub mod Fitting
pub mod Lists
pub mod Places
pub mod Splitting
pub mod Steps
