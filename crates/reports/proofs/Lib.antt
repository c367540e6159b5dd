pub mod Filled
pub mod Entries
pub mod Figures
