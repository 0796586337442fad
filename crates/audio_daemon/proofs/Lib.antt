pub mod Replays
pub mod RunStatus
pub mod Complete
