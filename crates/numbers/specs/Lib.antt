pub mod Types
pub mod Answers
pub mod Examples
pub mod Meanings
pub mod Explanations
