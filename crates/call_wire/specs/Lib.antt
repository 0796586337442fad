-- cited by public contracts
pub mod Laws
pub mod Next
pub mod Reading
-- cited by the contracts of this crate's own readers alone
pub mod Readers
