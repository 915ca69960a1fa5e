pub mod Full
pub mod Kept
pub mod Marked
pub mod Seen
pub mod Winners
