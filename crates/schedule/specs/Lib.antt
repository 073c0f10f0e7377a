pub mod Types
pub mod Reading
pub mod Told
pub mod WorkedFile
pub mod Direct
pub mod File
pub mod Header
