-- The definitions that the contracts of `worksheet` cite, one file for each module, and demand 3.
-- Assumes nothing.
pub mod Inputs
pub mod Desks
pub mod Showing
pub mod Journal
pub mod Calls
pub mod InForce
