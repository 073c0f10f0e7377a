pub mod Pieces
pub mod Digits
pub mod Fits
pub mod Rows
pub mod Filling
pub mod Whole
pub mod Worked
