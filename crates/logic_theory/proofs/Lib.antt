pub mod Derived
pub mod Trees
pub mod Grafting
pub mod Leading
pub mod ThinnedTrees
