pub mod Text
pub mod Placing
pub mod Printing
pub mod Writers
pub mod Writing
