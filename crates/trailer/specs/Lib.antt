pub mod Layout
pub mod Conditions
