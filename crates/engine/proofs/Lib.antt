pub mod TopFirst
pub mod Outcomes
pub mod Recorded
pub mod Made
pub mod Unfinished
pub mod Going
pub mod Working
