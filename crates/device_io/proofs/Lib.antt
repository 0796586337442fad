pub mod DeviceLogLaws
pub mod Places
pub mod Limits
pub mod OpenFiles
