pub mod LiveClients
pub mod ClosesOfClients
pub mod PeriodMoves
pub mod PresentStage
pub mod Playheads
pub mod PlayheadsThere
pub mod StateInOrder
pub mod SoundsTaken
pub mod FramesHanded
pub mod Outcomes
pub mod Disconnects
pub mod Recordings
pub mod RecordedStage
pub mod DevicesGive
pub mod BufferReleases
pub mod DeviceEvents
pub mod Events
pub mod Complete
pub mod Runs
pub mod RunsHaveHeadline
pub mod WorkedTurns
mod WorkedSessions
mod WorkedPackets
mod Worked
mod WorkedExclusive
