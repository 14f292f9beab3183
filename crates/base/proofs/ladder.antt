-- The index table and its ladders of words.
pub mod Ladders
pub mod Indexing
