pub mod Kept
pub mod Lists
pub mod Parties
pub mod Told
pub mod Views
