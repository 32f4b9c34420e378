pub mod Numbers
pub mod Copies
