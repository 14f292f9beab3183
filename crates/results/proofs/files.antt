-- Which files are accepted, what each refusal says, where each entry stands, and what is ignored.
pub mod Places
pub mod TableEntries
pub mod Marks
pub mod WalkAnswers
pub mod MadeFiles
pub mod FilePoints
pub mod IndexAnswers
pub mod ZeroFiles
pub mod GoodFiles
pub mod FirstOthers
pub mod MonthRecords
pub mod RecordWords
pub mod Later
pub mod LaterParts
pub mod YearDirectory
pub mod PackedYear
