-- what the loops and calls of the code come to
pub mod StepLaws
-- any two results that a promise allows are equal
pub mod OneAnswer
