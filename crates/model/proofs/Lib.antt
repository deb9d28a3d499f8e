pub mod DoneLaws
pub mod PlaceLaws
pub mod QuietLaws
pub mod TestLaws
pub mod WindowLaws
pub mod OpenLaws
pub mod OneOutcome
