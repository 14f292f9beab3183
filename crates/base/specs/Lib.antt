-- The definitions that the contracts of `base` cite, one file for each module. Assumes nothing.
pub mod Single
pub mod Double
pub mod Number
pub mod Constants
pub mod Angle
pub mod Elementary
pub mod Refusal
pub mod Ranges
pub mod Fill
pub mod Words
pub mod MonthFile
pub mod Tables
pub mod Index
pub mod Blend
pub mod Files
pub mod Finite
pub mod Year
