pub mod Spelled
pub mod SpelledForm
pub mod SpelledPoint
