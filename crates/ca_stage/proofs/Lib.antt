pub mod Lists
pub mod Streams
pub mod Conservation
pub mod Clients
pub mod Playheads
pub mod StageHolds
pub mod Counting
pub mod Positions
pub mod Silence
pub mod Mixing
pub mod Phases
pub mod SubSteps
pub mod WovenMoves
pub mod Stages
pub mod Places
pub mod Flights
pub mod Landings
pub mod WholeSounds
pub mod Sums
pub mod EachPlaceOnce
pub mod PlacesRise
pub mod Presence
pub mod StreamPlaces
pub mod MapMoves
pub mod MapTallies
pub mod Feeds
pub mod Books
pub mod ReadOrder
pub mod Periods
pub mod PacketSources
pub mod MapPeriods
pub mod PlayheadPlaces
mod Worked
mod WorkedMix
mod WorkedPackets
