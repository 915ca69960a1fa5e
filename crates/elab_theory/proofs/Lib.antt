pub mod Results
pub mod Formed
pub mod Sized
pub mod Admitted
pub mod Rows
pub mod Ordered
