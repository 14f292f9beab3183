-- Filled lists, runs one after the other, rules of tables.
pub mod Fills
pub mod Entries
pub mod Maps
