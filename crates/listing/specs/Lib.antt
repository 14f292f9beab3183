-- The definitions that the contracts of `listing` cite. Assumes nothing.
pub mod Answer
pub mod Calls
pub mod Turn
pub mod Sheet
pub mod Decimal
pub mod Page
pub mod Text
pub mod Reason
pub mod Survey
pub mod Fields
pub mod Columns
pub mod Spoken
pub mod Written
pub mod Fault
pub mod Account
pub mod Unit
