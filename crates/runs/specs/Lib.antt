pub mod Hosts
pub mod AskedRuns
pub mod History
pub mod Defaults
