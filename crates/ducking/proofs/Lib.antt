pub mod Changes
pub mod Counts
pub mod Histories
pub mod LastRows
pub mod Levels
pub mod Sessions
pub mod Setting
