-- The definitions that the contracts of `auditing` cite: where the inputs in force come from, what
-- became of each draft, and the same by the places of a run's calls. Assumes nothing.
pub mod Provenance
pub mod Marks
pub mod Gathered
pub mod Accounts
pub mod Page
