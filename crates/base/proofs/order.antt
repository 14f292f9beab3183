-- The order of floats, and that rounding keeps it.
pub mod Order
pub mod Monotone
pub mod Intervals
