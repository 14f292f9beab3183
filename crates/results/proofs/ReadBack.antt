-- A clerk's question: each statement of specs/ReadBack.antt, from where the work is done. Assumes
-- nothing.
use Rattle.results.specs.ReadBack.{CallReread, OpenReread, CallsGood, OpensGood, CallOneLine, OpenOneLine, JournalRewritten}
use Rattle.results.proofs.reading.Parts as Parts
use Rattle.results.proofs.reading.Reread as Reread
use Rattle.results.proofs.reading.Journals as Journals

pub call_reread : CallReread
call_reread = Reread.call_reread

pub open_reread : OpenReread
open_reread = Reread.open_reread

pub calls_good : CallsGood
calls_good = Parts.read_call

pub opens_good : OpensGood
opens_good = Parts.read_open

pub call_one_line : CallOneLine
call_one_line = Journals.call_one_line

pub open_one_line : OpenOneLine
open_one_line = Journals.open_one_line

pub journal_rewritten : JournalRewritten
journal_rewritten o cs first accepted others = Journals.journal_rewritten o cs first others accepted
