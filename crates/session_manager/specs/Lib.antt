pub mod Sessions
pub mod Rows
pub mod Changes
pub mod Book
pub mod Names
