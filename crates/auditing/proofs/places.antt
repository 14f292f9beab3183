-- The calls of a journal by their places: origins, fates and the shorter list.
pub mod Origins
pub mod Fates
pub mod Drafts
pub mod Piles
pub mod Examples
