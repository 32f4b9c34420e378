pub mod CourseLaws
pub mod HistoryLaws
pub mod EveningLaws
pub mod RoomLaws
pub mod IgnoredLaws
