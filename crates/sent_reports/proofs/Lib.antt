pub mod Entries
pub mod Puts
pub mod Reports
