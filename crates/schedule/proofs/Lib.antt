pub mod Laws
pub mod Halves
pub mod Entries
pub mod AcceptedFile
pub mod WorkedFile
pub mod Low
pub mod Header
pub mod Told
