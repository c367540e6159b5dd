pub mod Types
pub mod After
pub mod Answered
pub mod Did
pub mod First
pub mod Held
pub mod Made
