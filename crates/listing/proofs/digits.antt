-- Decimal digits of whole numbers and floats.
pub mod Places
pub mod Quotients
pub mod Values
