-- The insurer's question: each statement of specs/Insurer.antt, from where the work is done.
-- Assumes nothing.
use Rattle.std.proofs.Common.{reverse, refl}
use Rattle.worksheet.specs.Showing.{pair}
use Rattle.results.proofs.force.Insured as Line
use Rattle.results.proofs.force.Lasting as Lasting
use Rattle.results.proofs.force.Unbroken as Unbroken
use Rattle.jutetrowel.specs.Words.{worksheet_of}
use Rattle.results.proofs.force.InsuredOver as Over
use Rattle.results.specs.Insurer.{InsurersSentence, InsurersSentenceOpened, InsurersSentenceHanded, StayInRange, AlwaysShown, FirstShowing, ShowingsExist, InsurersSentenceLent, InsurersSentenceOver, ChangeNeverCancelled, ChangeNeverCancelledOver, CommitSource, ChangeSource, UndisturbedDraft, CommitUndisturbed, InsurersLine, InsurersLineLent, InsurersLineOver, OpenedInForce, InputsInForce, InForceOver, BegunInForce, CommitsExactly, InForceExactly, OpenedExactly, SomeOpen}
use Rattle.results.proofs.files.GoodFiles.{files_accepted}
use Rattle.results.proofs.sheet.AlwaysShown as Shown
use Rattle.results.proofs.sheet.HandedBack as HandedBack
use Rattle.results.proofs.sheet.ClosedDesks.{at_rest_law}
use Rattle.results.proofs.sheet.Opening as Opening

pub insurers_sentence : InsurersSentence
insurers_sentence f2 file = Unbroken.insurers_sentence (pair f2 file)

pub insurers_sentence_opened : InsurersSentenceOpened
insurers_sentence_opened f2 file = Over.insurers_sentence_opened (pair f2 file)

pub insurers_sentence_handed : InsurersSentenceHanded
insurers_sentence_handed f2 file = HandedBack.insurers_sentence_handed (pair f2 file)

pub stay_in_range : StayInRange
stay_in_range = Shown.stay_in_range

pub always_shown : AlwaysShown
always_shown = Shown.always_shown

pub first_showing : FirstShowing
first_showing = Shown.first_showing

pub some_open : SomeOpen
some_open = (Opening.opening_bytes, (refl, (Opening.of_bytes, Opening.opens)))

pub showings_exist : ShowingsExist
showings_exist = (_, (_, Shown.first_showing _ _ files_accepted))

pub insurers_sentence_lent : InsurersSentenceLent
insurers_sentence_lent source w h = Unbroken.insurers_sentence_lent source w (at_rest_law w h)

pub insurers_sentence_over : InsurersSentenceOver
insurers_sentence_over source l h = Over.insurers_sentence_over source l (at_rest_law (worksheet_of l) h)

pub never_cancelled : ChangeNeverCancelled
never_cancelled source w h = Unbroken.never_cancelled source w (at_rest_law w h)

pub never_cancelled_over : ChangeNeverCancelledOver
never_cancelled_over source l h = Over.never_cancelled_over source l (at_rest_law (worksheet_of l) h)

pub commit_source : CommitSource
commit_source source w h = Line.commit_source source w (at_rest_law w h)

pub change_source : ChangeSource
change_source source w h = Line.change_source source w (at_rest_law w h)

pub undisturbed_draft : UndisturbedDraft
undisturbed_draft source w h = Line.undisturbed_draft source w (at_rest_law w h)

pub commit_undisturbed : CommitUndisturbed
commit_undisturbed source w h cs c m =
    let rest = at_rest_law w h in
    let k = Line.commit_source source w rest cs c m in
    let committed = Unbroken.commit_call c.desk c.entry.call k.is_commit in
    let before = reverse c.past in
    (k, Line.undisturbed_draft source w rest cs before k.after c.entry c.desk k.split committed k.committed)

pub insurers_line : InsurersLine
insurers_line f2 file = Line.insurers_line (pair f2 file)

pub insurers_line_lent : InsurersLineLent
insurers_line_lent source w h = Line.insurers_line_lent source w (at_rest_law w h)

pub insurers_line_over : InsurersLineOver
insurers_line_over f2 file = Over.insurers_line_over (pair f2 file)

pub opened_in_force : OpenedInForce
opened_in_force f2 file = Line.opened_in_force (pair f2 file)

pub in_force_law : InputsInForce
in_force_law source w h = Line.in_force_law source w (at_rest_law w h)

pub in_force_over : InForceOver
in_force_over source l h = Over.in_force_over source l (at_rest_law (worksheet_of l) h)

pub begun_in_force : BegunInForce
begun_in_force source w h = Line.begun_in_force source w (at_rest_law w h)

pub commits_exactly : CommitsExactly
commits_exactly source w h = Lasting.commits_exactly source w (at_rest_law w h)

pub in_force_exactly : InForceExactly
in_force_exactly source w h = Lasting.in_force_exactly source w (at_rest_law w h)

pub opened_exactly : OpenedExactly
opened_exactly f2 file = Lasting.opened_exactly (pair f2 file)
