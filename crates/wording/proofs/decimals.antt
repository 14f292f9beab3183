-- Decimals: how they are read, and the float that is nearest to one.
pub mod Reading
pub mod Dividing
pub mod Examples
