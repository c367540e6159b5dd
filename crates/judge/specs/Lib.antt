pub mod Verdict
pub mod Fits
pub mod Examples
