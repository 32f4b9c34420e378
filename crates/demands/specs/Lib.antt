-- the three demands
pub mod Demand1
pub mod Demand2
pub mod Demand3
-- M-101: an evening of events in one call
pub mod Evening
-- M-102: why an event is answered as it is
pub mod Why
-- M-104: codes that are not the rule's business
pub mod Ignored
-- what they speak of: a sheet made by this build, and the calls of a C program
pub mod Made
pub mod FromC
-- the same for a rule that is kept in a book
pub mod Found
-- M-105: the two modes compared
pub mod Modes
-- the marked runs
pub mod Marked
