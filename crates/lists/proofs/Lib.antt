pub mod Cleaning
pub mod Flushing
pub mod Named
pub mod Numbering
