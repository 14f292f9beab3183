-- The field 300 km up vanishes nowhere.
pub mod Sines
pub mod Strips
pub mod FieldBoxes
pub mod FieldNotZero
pub mod FieldSpans
pub mod DipDefined
