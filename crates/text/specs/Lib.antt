pub mod Types
pub mod Decimal
pub mod Lines
pub mod Pieces
pub mod Worked
