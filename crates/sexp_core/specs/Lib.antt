pub mod Candidates
pub mod Lists
pub mod Sexp
pub mod State
pub mod Readers
pub mod Progress
