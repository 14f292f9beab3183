-- Which figures are finite.
pub mod FinitePath
pub mod FiniteField
pub mod MagneticFinite
pub mod ExpNumbers
pub mod FiniteMaps
pub mod FiniteLayers
pub mod FiniteFigures
pub mod AcceptedFields
pub mod SoundFiles
pub mod FiniteSheets
pub mod NoSun
pub mod FileWords
