pub mod Trees
pub mod Lawful
pub mod Verdicts
pub mod Reading
pub mod Living
pub mod Standings
pub mod Placed
pub mod Opened
pub mod Judged
pub mod Blocks
mod Rows
