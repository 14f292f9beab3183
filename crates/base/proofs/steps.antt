-- The elementary functions of document 01: coefficients, logarithm, quarter turns.
pub mod Terms
pub mod Logs
pub mod Reduction
pub mod Turns
