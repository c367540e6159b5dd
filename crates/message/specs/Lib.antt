pub mod Feeding
pub mod Reads
pub mod Writes
