-- Hearings: what is said of a journal's lines is what the run of its calls answers.
pub mod Said
pub mod Endings
pub mod Lines
pub mod Sources
pub mod Examples
