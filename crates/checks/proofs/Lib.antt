-- what the checks come to: their ends and turns, and all of them together
pub mod CheckLaws
pub mod HeldLaws
-- any two results that a promise allows are equal
pub mod OneAnswer
