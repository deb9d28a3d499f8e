pub mod RunLaws
pub mod OneOutcome
