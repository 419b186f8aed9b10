pub mod Refusals
pub mod Runs
pub mod Calls
pub mod Moves
pub mod Telling
