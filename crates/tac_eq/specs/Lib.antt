pub mod Own
pub mod Over
pub mod Bodies
pub mod Rewriting
