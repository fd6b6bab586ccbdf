pub mod Answers
pub mod Free
pub mod Judged
