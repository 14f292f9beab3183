-- The insurer's page: what its lines say of the run of the journal's calls.
pub mod Alike
pub mod Held
pub mod Fields
pub mod Values
pub mod Drafts
pub mod None
pub mod Last
pub mod Showings
pub mod Sheets
pub mod Shorter
pub mod Room
pub mod Calls
pub mod SameSheet
pub mod Whole
pub mod Had
