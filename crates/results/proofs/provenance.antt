-- Provenance: the origin of each part of the inputs in force and the fate of each draft, over a run's
-- entries and by marks.
pub mod Marking
pub mod Origins
pub mod Places
pub mod Parts
pub mod Changes
pub mod Named
pub mod Fates
pub mod Refusals
pub mod StillOpen
pub mod Standing
pub mod FatesTold
pub mod Examples
