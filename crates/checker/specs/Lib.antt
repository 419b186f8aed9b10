pub mod Causes
pub mod Checking
pub mod Place
