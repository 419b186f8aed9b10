pub mod Searching
pub mod Arms
pub mod Tables
pub mod Viewed
pub mod Repeating
pub mod Accepting
