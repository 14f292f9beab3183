-- Verdicts and their numbers.
pub mod Picks
pub mod Refusals
