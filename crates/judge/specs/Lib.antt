pub mod Verdict
pub mod Answer
