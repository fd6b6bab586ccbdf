pub mod Reading
pub mod TextCases
