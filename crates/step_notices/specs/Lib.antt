pub mod Notes
pub mod Limits
pub mod Changes
pub mod Laws
pub mod Puts
