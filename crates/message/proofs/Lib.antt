pub mod Bytewise
pub mod Putting
pub mod Whole
