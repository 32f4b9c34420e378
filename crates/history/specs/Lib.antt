pub mod Course
pub mod History
