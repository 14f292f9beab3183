-- Laws that belong to no one function, in rooms by subject. Assumes nothing.
pub mod places
pub mod journals
pub mod pages
