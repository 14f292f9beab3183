pub mod Said
pub mod Walk
