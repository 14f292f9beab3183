-- What is heard of a line that ends a journal.
pub mod Ended
