pub mod Finding
pub mod Rows
pub mod SortedSearch
pub mod Supporting
pub mod Texts
pub mod ActiveEndpoints
pub mod NotedDefaults
pub mod AddedNotices
