pub mod Items
pub mod Closing
pub mod Headline
pub mod Kept
pub mod Numbers
pub mod Serving
pub mod Statuses
