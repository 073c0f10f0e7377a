pub mod Types
pub mod Numbers
pub mod Refusals
