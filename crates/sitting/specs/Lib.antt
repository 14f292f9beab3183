-- The definitions that the contracts of `sitting` cite. Assumes nothing.
pub mod Sitting
