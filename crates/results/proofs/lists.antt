-- Lists of calls: what the shorter list holds.
pub mod Kept
