-- The inputs in force: the insurer's line and sentence, of worksheets and of lent words.
pub mod Tracked
pub mod Lasting
pub mod Insured
pub mod Unbroken
pub mod InsuredOver
