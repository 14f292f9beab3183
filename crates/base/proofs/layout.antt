-- The month file, month record, Table and year file as the functions read them.
pub mod Walks
pub mod Records
pub mod FirstWords
pub mod Parts
pub mod Readers
pub mod Directories
