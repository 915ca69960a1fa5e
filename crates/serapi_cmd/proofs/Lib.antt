pub mod FieldLists
pub mod Digits
