pub mod Lists
pub mod Forgotten
pub mod Located
pub mod Agreed
pub mod Works
pub mod Added
pub mod Removed
pub mod Flags
pub mod Onward
pub mod Tables
pub mod Reports
pub mod Late
pub mod Joined
pub mod Ended
pub mod Steady
pub mod Flat
pub mod Quiet
pub mod Places
pub mod Ids
pub mod Turns
pub mod Texts
pub mod Asked
pub mod Before
pub mod Ruled
mod Toys
mod Counting
mod Losing
mod Posted
mod Shaped
mod Left
