pub mod Types
pub mod Registers
pub mod Steps
