pub mod Inverting
pub mod Sound
pub mod Complete
pub mod Caused
pub mod Exactly
pub mod Depth
