pub mod Text
pub mod Writing
pub mod Slip
pub mod Reached
pub mod Fitting
pub mod Answer
pub mod Laws
pub mod Specimens
