pub mod Values
pub mod Form
pub mod Tails
pub mod Lent
pub mod Refusals
pub mod FormCases
