pub mod Counted
pub mod Loaded
pub mod Missed
pub mod Protected
pub mod Words
