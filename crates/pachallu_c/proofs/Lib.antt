pub mod OneAnswer
pub mod Contracts
