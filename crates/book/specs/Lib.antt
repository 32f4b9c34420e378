-- a book, and what stands in one
pub mod Book
pub mod Directory
-- looking a rule up in two books, and adding one
pub mod Finding
pub mod Adding
-- the rows of 17, 18 and 26
pub mod Given
-- all that is proved of them
pub mod Books
