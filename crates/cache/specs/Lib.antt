pub mod Tables
pub mod Work
pub mod Asked
pub mod Named
