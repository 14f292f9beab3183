-- The definitions that the contracts of `wording` cite, one file for each module. Assumes nothing.
pub mod Number
pub mod Token
pub mod Line
pub mod Written
