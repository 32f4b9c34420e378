-- the code's loops
pub mod LoopLaws
pub mod StepLaws
pub mod SoughtLaws
pub mod PickLaws
-- the grounds
pub mod GroundLaws
pub mod OnePairLaws
pub mod JudgeLaws
pub mod WhyLaws
-- any two results that a promise allows are equal
pub mod OneAnswer
-- "given exactly when"
pub mod GivenLaws
-- what an answer says
pub mod AnswerLaws
