-- Lists of calls over words: demand 3.
pub mod Carried
