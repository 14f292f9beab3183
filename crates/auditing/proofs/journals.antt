-- What an audit gathers from a journal's text: its lines, what they tell, and the run of its calls.
pub mod Lines
pub mod Told
pub mod Runs
pub mod Buffers
pub mod Turns
pub mod Reading
pub mod Examples
