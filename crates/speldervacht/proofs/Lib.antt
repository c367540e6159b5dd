pub mod Opening
pub mod Reporting
pub mod Told
