pub mod Bits
pub mod Calls
pub mod Finding
pub mod Lists
