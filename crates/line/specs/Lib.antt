pub mod Order
pub mod Records
pub mod Lines
