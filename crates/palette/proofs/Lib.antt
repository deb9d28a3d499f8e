pub mod DacLaws
pub mod EntryLaws
pub mod OneOutcome
