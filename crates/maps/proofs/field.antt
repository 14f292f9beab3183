-- Legendre's functions and the field's sums.
pub mod Legendre
pub mod FieldSums
