pub mod Answers
pub mod Packets
