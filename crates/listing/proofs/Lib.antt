-- Laws that belong to no one function, in rooms by subject, and the list of those on sizes that the
-- tactics are given. Assumes nothing.
pub mod pieces
pub mod digits
pub mod reread
pub mod Sizes
