pub mod Types
pub mod Told
pub mod Lister
pub mod Undone
pub mod Parts
pub mod Taker
