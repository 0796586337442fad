pub mod Scaling
pub mod Gains
pub mod Sums
