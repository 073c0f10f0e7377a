pub mod Told
pub mod Types
pub mod Asked
pub mod Form
pub mod Parts
pub mod Played
pub mod WorkedReuse
