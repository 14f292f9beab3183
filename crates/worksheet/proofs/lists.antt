-- Lists of calls: demand 3, and worked lists.
pub mod Replay
pub mod Rules
pub mod Examples
