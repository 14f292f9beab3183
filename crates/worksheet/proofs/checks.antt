-- What the functions' proofs share: showings that are refused, calls by their cases.
pub mod Showings
pub mod Makings
