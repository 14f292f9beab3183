-- The desks: drafts, what each call finds and leaves, what every call keeps, openings.
pub mod Drafts
pub mod Effects
pub mod Keeps
pub mod Openings
