pub mod Texts
pub mod Numerals
