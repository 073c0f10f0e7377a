pub mod Told
pub mod Types
pub mod Form
pub mod Made
pub mod Writer
pub mod Parts
pub mod WorkedText
pub mod RoundTrip
