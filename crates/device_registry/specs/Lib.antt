pub mod Endpoints
pub mod Rows
pub mod Changes
pub mod Registry
