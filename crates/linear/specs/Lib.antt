pub mod Types
pub mod Demand3
pub mod TrueOfWord
pub mod OfFile
