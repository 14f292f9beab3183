-- What a call leaves whatever files are lent.
pub mod Sheets
