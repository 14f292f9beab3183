-- Worksheets as words, and answers as numbers.
pub mod Stored
pub mod Crossed
pub mod Returned
pub mod Unopened
pub mod Spans
