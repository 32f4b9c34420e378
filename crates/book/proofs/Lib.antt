-- the directory: the walk over it, the search in it, what its entries hold
pub mod ChunkLaws
pub mod DirectoryLaws
pub mod SeekLaws
pub mod EntriesLaws
-- bytes are a well formed book exactly when they are the book of a list
pub mod BookLaws
-- what is found is the entry in force
pub mod MeaningLaws
pub mod FindLaws
-- what adding writes, and what the new book is to the old one
pub mod GrowthLaws
pub mod AddLaws
-- which refusals the calls give
pub mod GivenLaws
-- all that is promised of books
pub mod BooksHold
-- any two results that a promise allows are equal
pub mod OneAnswer
