pub mod Whole
pub mod Fraction
pub mod Examples
