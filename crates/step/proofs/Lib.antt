pub mod Integers
pub mod Reach
pub mod Equality
