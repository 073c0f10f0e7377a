pub mod Sizes
pub mod Pieces
pub mod Takers
pub mod Answers
pub mod Undone
pub mod Told
