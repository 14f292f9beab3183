-- Laws that belong to no one function, in rooms by subject. Assumes nothing.
pub mod rounding
pub mod roots
pub mod order
pub mod steps
pub mod lists
pub mod layout
pub mod ladder
pub mod verdicts
