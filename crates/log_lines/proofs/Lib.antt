pub mod Counts
pub mod RosterA
pub mod Shown
