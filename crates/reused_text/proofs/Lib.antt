pub mod WorkedReuse
pub mod Heads
pub mod Texts
pub mod Entries
pub mod Turns
pub mod Wholes
pub mod Printing
