pub mod Word
pub mod Calls
pub mod Decides
pub mod Records
