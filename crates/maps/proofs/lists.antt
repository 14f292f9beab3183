-- Loops, buffers filled and written, and the table of series starts.
pub mod Loops
pub mod Refills
pub mod SeriesStarts
pub mod Written
