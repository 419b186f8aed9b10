pub mod Working
pub mod Showing
pub mod Keeping
pub mod Holding
