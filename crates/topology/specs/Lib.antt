pub mod Parts
pub mod Settings
pub mod Rows
pub mod Laws
