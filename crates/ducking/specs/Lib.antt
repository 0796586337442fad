pub mod Ducking
pub mod Book
pub mod Steps
pub mod Laws
