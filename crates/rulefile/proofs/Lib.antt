-- lists, and what the layout's functions come to
pub mod ListLaws
pub mod LayoutLaws
pub mod WhenLaws
-- what a file, or a rule by value, has that passed the checks
pub mod ReadingLaws
pub mod PartsLaws
pub mod WellLaws
pub mod WritingLaws
-- refusals: given exactly when
pub mod FaultLaws
pub mod RowLaws
pub mod GivenLaws
pub mod Edges
-- the round trips
pub mod CutLaws
pub mod DrawnLaws
pub mod FileLaws
pub mod RoundTrips
-- any two results that a promise allows are equal
pub mod OneAnswer
