-- What the exported functions say beyond the crates below. Assumes nothing.
pub mod Answers
pub mod Fields
pub mod Words
pub mod Calls
pub mod Clocks
pub mod Layers
