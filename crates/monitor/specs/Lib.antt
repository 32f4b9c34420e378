pub mod Fresh
pub mod Event
pub mod Evening
pub mod Given
pub mod Known
