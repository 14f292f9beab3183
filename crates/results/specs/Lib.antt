-- The results, as statements that a reader has to believe: a file for each question that a doubter
-- would ask, in that order; then the definitions that several of them share. Assumes nothing.
pub mod Insurer
pub mod Audit
pub mod ReadBack
pub mod Heard
pub mod AuditPage
pub mod CancelledEdits
pub mod FigureSources
pub mod AsInTheRust
pub mod FiniteOrNot
pub mod AcceptedFiles
pub mod OneYear
pub mod ElementarySteps
pub mod Crossing
pub mod ExhibitedFiles
pub mod KnownPoints
pub mod LaterBytes
pub mod SamePaths
