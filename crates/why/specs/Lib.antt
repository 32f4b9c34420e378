-- in the request's words
pub mod Grounds
-- what the call promises, and when it refuses
pub mod Why
pub mod Given
-- how the code goes about it
pub mod Steps
