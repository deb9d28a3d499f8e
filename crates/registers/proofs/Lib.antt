pub mod Searches
pub mod Flags
pub mod Rows
pub mod PackedEntries
pub mod OneOutcome
pub mod FaultLaws
