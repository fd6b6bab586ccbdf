pub mod Putting
pub mod Formed
pub mod Coarsest
pub mod FormCases
