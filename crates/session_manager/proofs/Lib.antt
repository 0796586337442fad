pub mod Calls
pub mod Finding
pub mod Joins
pub mod Limits
pub mod Texts
