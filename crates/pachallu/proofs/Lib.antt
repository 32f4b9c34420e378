pub mod ToldLaws
pub mod EndsLaws
pub mod OneAnswer
