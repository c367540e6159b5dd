pub mod Cases
pub mod Choices
pub mod Bounds
pub mod Rooms
pub mod Resizes
pub mod Courses
pub mod Changes
