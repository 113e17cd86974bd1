pub mod Queued
pub mod Room
pub mod Tables
mod Ordered
