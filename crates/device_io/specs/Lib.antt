pub mod DeviceLog
pub mod MemEndpoints
pub mod Memory
pub mod Files
pub mod KeptFiles
