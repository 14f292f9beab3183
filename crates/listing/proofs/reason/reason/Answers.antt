-- `reason` has the words of `reason_of`, by the refusal.
use Rattle.std.proofs.Common.{refl}
use Rattle.listing.proofs.reason.reason.Goals as goal

pub returns-in-Month : goal.returns-in-Month
returns-in-Month c = rw c.in-Month.is refl

pub returns-in-Sunspot : goal.returns-in-Sunspot
returns-in-Sunspot c = rw c.in-Sunspot.is refl

pub returns-in-Hour : goal.returns-in-Hour
returns-in-Hour c = rw c.in-Hour.is refl

pub returns-in-Latitude : goal.returns-in-Latitude
returns-in-Latitude c = rw c.in-Latitude.is refl

pub returns-in-Longitude : goal.returns-in-Longitude
returns-in-Longitude c = rw c.in-Longitude.is refl

pub returns-in-Factor : goal.returns-in-Factor
returns-in-Factor c = rw c.in-Factor.is refl

pub returns-in-Flag : goal.returns-in-Flag
returns-in-Flag c = rw c.in-Flag.is refl

pub returns-in-Model : goal.returns-in-Model
returns-in-Model c = rw c.in-Model.is refl

pub returns-in-Record : goal.returns-in-Record
returns-in-Record c = rw c.in-Record.is refl

pub returns-in-Ended : goal.returns-in-Ended
returns-in-Ended c = rw c.in-Ended.is refl

pub returns-in-Marker : goal.returns-in-Marker
returns-in-Marker c = rw c.in-Marker.is refl

pub returns-in-RecordWord : goal.returns-in-RecordWord
returns-in-RecordWord c = rw c.in-RecordWord.is refl

pub returns-in-MonthWord : goal.returns-in-MonthWord
returns-in-MonthWord c = rw c.in-MonthWord.is refl

pub returns-in-Index : goal.returns-in-Index
returns-in-Index c = rw c.in-Index.is refl

pub returns-in-Figures : goal.returns-in-Figures
returns-in-Figures c = rw c.in-Figures.is refl

pub returns-in-Table : goal.returns-in-Table
returns-in-Table c = rw c.in-Table.is refl

pub returns-in-Desk : goal.returns-in-Desk
returns-in-Desk c = rw c.in-Desk.is refl

pub returns-in-Drafted : goal.returns-in-Drafted
returns-in-Drafted c = rw c.in-Drafted.is refl

pub returns-in-NoDraft : goal.returns-in-NoDraft
returns-in-NoDraft c = rw c.in-NoDraft.is refl

pub returns-in-Stale : goal.returns-in-Stale
returns-in-Stale c = rw c.in-Stale.is refl

pub returns-in-NothingEarlier : goal.returns-in-NothingEarlier
returns-in-NothingEarlier c = rw c.in-NothingEarlier.is refl

pub returns-in-Year : goal.returns-in-Year
returns-in-Year c = rw c.in-Year.is refl
