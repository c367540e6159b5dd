pub mod Laws
pub mod Resized
