pub mod Named
pub mod Unrefused
