pub mod Evictable
