pub mod Below
pub mod Bytes
pub mod Range
pub mod First
pub mod Refusals
