pub mod Apart
pub mod Laws
pub mod Lexed
pub mod Operands
pub mod Picks
pub mod Refusals
pub mod Shapes
pub mod Spans
mod Table
pub mod Typed
pub mod Words
pub mod Written
