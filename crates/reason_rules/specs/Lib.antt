pub mod Bounds
pub mod Reasons
pub mod Courses
pub mod ReasonCases
