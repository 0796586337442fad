pub mod FrameLaws
pub mod BlockLaws
pub mod RowLaws
pub mod FieldLaws
pub mod FormatLaws
pub mod FrameWords
pub mod FrameCuts
