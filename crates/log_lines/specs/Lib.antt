pub mod Log
pub mod Remarks
pub mod Run
pub mod RosterA
