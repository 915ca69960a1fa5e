pub mod Bytes
pub mod Counted
pub mod Fitting
pub mod Framed
pub mod Items
pub mod Stepped
