-- the smallest value over the pairs
pub mod ValueLaws
-- the operation of a move into each state, as two sets
pub mod MarkLaws
-- any two results that a promise allows are equal
pub mod OneAnswer
