pub mod Finding
pub mod Pieces
pub mod Labels
pub mod Cells
pub mod Lines
pub mod Deciding
pub mod Exploring
pub mod Alike
