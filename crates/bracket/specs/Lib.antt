pub mod Characters
pub mod Faults
pub mod Items
pub mod Texts
pub mod Reads
