pub mod Counts
pub mod Spelling
pub mod Firsts
pub mod Laying
pub mod Marking
pub mod Ranks
pub mod Deciding
