-- A sheet from its files, and its fields as words.
pub mod Checks
pub mod Alone
pub mod Codec
