-- Rounding to a format, bit patterns and what they stand for, signs, narrowing.
pub mod Rounding
pub mod Halves
pub mod Fields
pub mod Narrowing
pub mod Patterns
pub mod Exponents
pub mod Sorts
pub mod Signs
pub mod Twos
pub mod DoubleRounding
