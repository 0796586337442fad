pub mod Places
pub mod QuietNotes
