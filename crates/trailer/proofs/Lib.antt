-- what the layout's functions come to
pub mod LayoutLaws
-- what a file or a shape has that passed the checks, what their returns come to, and the numbers that they give
pub mod SoundLaws
pub mod HeadLaws
pub mod NumberLaws
-- any two results that a promise allows are equal
pub mod OneAnswer
