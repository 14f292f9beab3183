-- Texts put together piece by piece.
pub mod Puts
pub mod Rows
pub mod Series
pub mod Named
pub mod Abreast
pub mod Reasons
pub mod HexLines
pub mod Turns
pub mod Sayings
pub mod Answers
pub mod Examples
pub mod Fractions
pub mod Faults
pub mod Accounts
