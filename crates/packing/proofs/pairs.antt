-- The directory's pairs, for parts that lie one after the other.
pub mod Starts
pub mod Written
pub mod Sealed
