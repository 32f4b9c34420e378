-- a store that has room
pub mod EffectLaws
-- a dump that has room
pub mod DumpLaws
-- what a turn leaves, and a refusal keeps
pub mod KeptLaws
-- any two results that a promise allows are equal
pub mod OneAnswer
