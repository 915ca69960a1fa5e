pub mod Arguments
pub mod Declared
pub mod Depths
