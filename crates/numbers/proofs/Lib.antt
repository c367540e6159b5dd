pub mod Listed
pub mod Unknown
