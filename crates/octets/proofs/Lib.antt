pub mod ListLaws
pub mod NumberLaws
pub mod CopyLaws
pub mod OneAnswer
