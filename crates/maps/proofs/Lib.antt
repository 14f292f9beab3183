-- Laws that belong to no one function, in rooms by subject. Assumes nothing.
pub mod lists
pub mod field
pub mod sums
pub mod sheet
