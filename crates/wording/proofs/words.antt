-- The words of a line and the call that they are.
pub mod Names
pub mod Splits
pub mod Fits
pub mod Examples
