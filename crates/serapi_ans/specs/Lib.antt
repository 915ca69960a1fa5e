pub mod Lines
pub mod Joined
pub mod Pieces
pub mod Fitting
pub mod ReadBack
