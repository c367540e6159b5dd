pub mod Explanation
pub mod Promises
pub mod Putting
