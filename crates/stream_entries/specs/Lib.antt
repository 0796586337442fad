pub mod Search
pub mod Closing
pub mod Events
pub mod Gains
pub mod Leaving
pub mod Noting
pub mod Holding
