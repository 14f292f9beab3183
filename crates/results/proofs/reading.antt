-- Reading back: a call that was read from a line, written as text and read again, is the same call.
pub mod Numbers
pub mod Parts
pub mod Words
pub mod Texts
pub mod Reread
pub mod Journals
pub mod Examples
