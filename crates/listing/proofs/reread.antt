-- Written calls as text: reading a number back gives the same, each is one word, and worked examples.
pub mod Digits
pub mod Reading
pub mod Bytes
pub mod Examples
