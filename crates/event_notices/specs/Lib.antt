pub mod Kinds
pub mod Notices
pub mod Rows
pub mod Calls
pub mod Queue
pub mod Bytes
