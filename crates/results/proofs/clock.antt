-- Clocks: the correction, the turns of the loop, the range of the answers, the known points.
pub mod Clock
pub mod Midnight
pub mod Offsets
pub mod WholeParts
pub mod Wraps
pub mod ClockPoints
