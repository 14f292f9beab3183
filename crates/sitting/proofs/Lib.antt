-- Laws that belong to no one function, in rooms by subject. Assumes nothing.
pub mod sources
pub mod endings
