pub mod Chaining
pub mod Layouts
pub mod Meaning
pub mod Numbering
pub mod Packing
pub mod Trying
pub mod Numbered
