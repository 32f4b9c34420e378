-- the three demands
pub mod Demand1
pub mod Demand2
pub mod Demand3
pub mod Found
pub mod Evening
pub mod Why
pub mod Ignored
pub mod Modes
-- they are about the code that is built: each function's contract says what they say of it
pub mod Contracts
-- what a made sheet has; the calls of a C program are a history
pub mod MadeLaws
pub mod FromCLaws
-- the marked runs, a witness of every hypothesis, and reach at its limits
pub mod Runs
pub mod Witness
pub mod Asked
pub mod Limits
