pub mod Places
pub mod Runs
pub mod Parsing
pub mod Decimal
pub mod Known
pub mod Neat
pub mod Determined
pub mod Spelling
