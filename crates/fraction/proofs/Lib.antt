pub mod NoNumber
pub mod WholeByWord
