pub mod Windows
pub mod Turns
pub mod Finishes
pub mod Complete
