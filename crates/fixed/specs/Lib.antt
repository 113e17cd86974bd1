pub mod Tasks
pub mod FixedBoards
pub mod Fixeds
pub mod Members
