pub mod Arranged
pub mod OneOutcome
