pub mod MappedLists
pub mod TurnedEntries
pub mod Closable
pub mod EventsLeft
pub mod PartedEntries
pub mod SessionStates
