-- The square root: digit by digit, nearest, in order.
pub mod Roots
pub mod Rooted
pub mod NearestRoot
pub mod RootsOrder
