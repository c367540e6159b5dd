pub mod Tests
pub mod Passed
pub mod Places
pub mod Floats
pub mod Defaults
pub mod Clean
