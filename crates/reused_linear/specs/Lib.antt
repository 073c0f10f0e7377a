pub mod Types
pub mod Arcs
pub mod Safe
pub mod Claims
pub mod Demand3
