pub mod Aging
pub mod Laws
pub mod Named
