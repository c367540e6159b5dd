pub mod Types
pub mod Limits
pub mod Defaults
pub mod Validation
pub mod Examples
