pub mod Discarded
