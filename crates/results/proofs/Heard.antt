-- A sitter's question: each statement of specs/Heard.antt, from where the work is done. Assumes
-- nothing.
use Rattle.std.proofs.Common.{◌∷◌}
use Rattle.worksheet.specs.Journal.{run}
use Rattle.auditing.specs.Gathered.{waiting, sits, ended, calls_told}
use Rattle.results.specs.Heard.{said_of, HeardWaiting, HeardSits, HeardEnded, SaidEntries, SilentSame}
use Rattle.results.proofs.hearings.Said.{said_both, run_both}
use Rattle.results.proofs.hearings.Endings.{ended_at}
use Rattle.results.proofs.hearings.Lines.{HeardAs, heard_as}
use Rattle.results.proofs.hearings.Sources as Sources

pub heard_waiting : HeardWaiting
unfolding HeardAs
heard_waiting source s u text k e = heard_as source s u text k waiting e

pub heard_sits : HeardSits
unfolding HeardAs
heard_sits source s u text k o at cs e = heard_as source s u text k (sits o at cs) e

pub heard_ended : HeardEnded
unfolding HeardAs
heard_ended source s u text k e = ended_at source s text k u e (heard_as source s u text k ended e)

pub said_entries : SaidEntries
unfolding said_of run calls_told
said_entries source w front x later = (said_both source w front (x ∷ later), run_both source w front (x ∷ later))

pub silent_same : SilentSame
silent_same = Sources.silent_same
