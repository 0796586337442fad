pub mod Runs
pub mod Ends
pub mod Window
pub mod Parts
pub mod Complete
