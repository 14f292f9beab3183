-- The definitions that the contracts of `maps` cite, one file for each module. Assumes nothing.
pub mod Loop
pub mod Inputs
pub mod Magnetic
pub mod Geometry
pub mod Virtim
pub mod Good
pub mod Versy
pub mod Series
pub mod Noisy
pub mod Layers
pub mod Clocks
pub mod Ionosphere
pub mod Figures
