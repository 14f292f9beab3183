-- The definitions that the contracts of `packing` cite. Assumes nothing.
pub mod Pack
