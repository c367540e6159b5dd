pub mod Flushed
pub mod Taken
