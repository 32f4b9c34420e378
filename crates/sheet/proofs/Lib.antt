pub mod OpeningLaws
pub mod OneAnswer
