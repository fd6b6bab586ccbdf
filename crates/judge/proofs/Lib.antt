pub mod Decisions
pub mod Joins
pub mod Ranges
pub mod Warnings
