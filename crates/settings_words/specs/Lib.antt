pub mod Words
pub mod FloatsFit
pub mod Picture
pub mod Examples
