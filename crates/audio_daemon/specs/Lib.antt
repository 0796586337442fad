pub mod Run
pub mod Complete
pub mod StatusLine
