-- The map series of CCIR Report 340.
pub mod DailySeries
pub mod Report340
pub mod StartsTable
pub mod FigureSeries
