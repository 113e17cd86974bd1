pub mod Sets
pub mod Digits
