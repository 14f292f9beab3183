-- The geographic functions, the sums of the maps, and sums of whole numbers.
pub mod GeographicFunctions
pub mod MapSeries
pub mod NoisySums
pub mod WholeSums
