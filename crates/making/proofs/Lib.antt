-- what the loops and calls of src/cells.rt build
pub mod CellLaws
-- a made sheet: what stands in it, that it opens, and which refusals making gives
pub mod MakingLaws
pub mod FoundLaws
pub mod GivenLaws
-- any two results that a promise allows are equal
pub mod OneAnswer
