pub mod Layout
pub mod Picture
pub mod Holds
pub mod Leaves
pub mod Places
