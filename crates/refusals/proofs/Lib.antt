pub mod Unrefused
pub mod Here
