pub mod Worked
pub mod Answers
