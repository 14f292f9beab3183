-- The lines of an audit's page.
pub mod Answers
pub mod Parts
pub mod Examples
