pub mod Counting
pub mod Layout
pub mod Kinds
pub mod Names
pub mod Strips
pub mod Faults
pub mod Noted
pub mod Books
