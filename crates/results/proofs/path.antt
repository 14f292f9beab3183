-- Points of a path: how many, where, and what enters them.
pub mod SignRules
pub mod PointCounts
pub mod PointRows
pub mod Longitudes
pub mod Typed
