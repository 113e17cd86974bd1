pub mod Calls
pub mod Empties
