pub mod Plain
pub mod Quiet
pub mod Batching
pub mod Carried
