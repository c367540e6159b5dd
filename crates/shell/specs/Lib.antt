pub mod Lines
pub mod Rest
