pub mod Types
pub mod Told
pub mod Bench
pub mod Play
