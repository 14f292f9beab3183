-- Floats held between bounds, NaN, `min` and `max`.
pub mod Bounds
pub mod Sizes
pub mod DoubleSizes
pub mod SineSizes
pub mod LogSizes
pub mod Spans
pub mod SineSpans
pub mod MinMax
pub mod NoNumbers
