pub mod Evidences
pub mod Inner
pub mod Laws
pub mod Lists
pub mod Machines
pub mod Named
pub mod Owned
pub mod Parts
pub mod Readings
pub mod Rows
pub mod Signs
pub mod Stops
mod Table
