pub mod Turn
pub mod Walk
pub mod WholeRun
pub mod Told
