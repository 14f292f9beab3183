-- An auditor's question: each statement of specs/Audit.antt, from where the work is done. Assumes
-- nothing.
use Rattle.std.proofs.Common.{length}
use Rattle.auditing.specs.Marks.{marks_of}
use Rattle.auditing.specs.Provenance.{standing}
use Rattle.results.specs.Audit.{NamedMake, NamedMakeLent, NamedStands, OpenedStands, StandingChanges, OriginByMarks, KeptByMarks, KeptPlacesBelow, FateByMarks, FateStands, FateCancelled, FateTakenBack, FateNever, RefusedLast, RefusedNever}
use Rattle.results.proofs.sheet.ClosedDesks.{at_rest_law}
use Rattle.results.proofs.provenance.Changes as Changes
use Rattle.results.proofs.provenance.Named as Named
use Rattle.results.proofs.provenance.Origins as Origins
use Rattle.results.proofs.provenance.Places as Places
use Rattle.results.proofs.provenance.Fates as Fates
use Rattle.results.proofs.provenance.Standing as Standing
use Rattle.results.proofs.provenance.FatesTold as FatesTold

pub named_make : NamedMake
named_make = Changes.named_make

pub named_make_lent : NamedMakeLent
named_make_lent source w h = Changes.named_make_lent source w (at_rest_law w h)

pub named_stands : NamedStands
named_stands source w h = Named.named_stands source w (at_rest_law w h)

pub opened_stands : OpenedStands
opened_stands w entries part = Named.none_named part (standing w entries)

pub standing_changes : StandingChanges
standing_changes = Changes.standing_changes

pub origin_by_marks : OriginByMarks
origin_by_marks source w h = Origins.origin_by_marks source w (at_rest_law w h)

pub kept_by_marks : KeptByMarks
kept_by_marks = Places.kept_by_marks

pub kept_places_below : KeptPlacesBelow
kept_places_below entries = Places.kept_below (marks_of entries) (length entries)

pub fate_by_marks : FateByMarks
fate_by_marks = Fates.fate_by_marks

pub fate_stands : FateStands
fate_stands source w h = Standing.fate_stands source w (at_rest_law w h)

pub fate_cancelled : FateCancelled
fate_cancelled = FatesTold.fate_cancelled

pub fate_taken_back : FateTakenBack
fate_taken_back = FatesTold.fate_taken_back

pub fate_never : FateNever
fate_never = FatesTold.fate_never

pub refused_last : RefusedLast
refused_last = FatesTold.refused_last

pub refused_never : RefusedNever
refused_never = FatesTold.refused_never
