-- `answer_all` leaves the worksheet that a run of the calls read so far leaves: each call adds
-- itself to the run, and has at most 28 bytes, so that `at` stays small.
use Rattle.std.proofs.Common.{rules, ◌≡◌, refl, sym, ap, ◌∙◌, [], ◌∷◌, ◌++◌}
use Rattle.worksheet.specs.declared.desks.Worksheet.{Worksheet}
use Rattle.worksheet.specs.Showing.{Source}
use Rattle.worksheet.specs.Journal.{Call, step, run}
use Rattle.listing.proofs.pieces.Turns.{run_last}
use Rattle.replaying.proofs.answer_all.Invariants.{LeftBy}
use Rattle.replaying.proofs.answer_all.Goals as goal

one_more : (source : Source) (w v : Worksheet) (c : Call) {u : Worksheet} → u ≡ (step source c v).sheet → LeftBy source w v → LeftBy source w u
one_more source w v c e h = (
  h.0 ++ (c ∷ []),
  e ∙ ap (λ (z : Worksheet). (step source c z).sheet) h.1 ∙ sym (run_last source h.0 c w),
)

pub loop-turn-init : goal.loop-turn-init
unfolding run
loop-turn-init c = (search rules, ([], refl))

pub returns-in-Bad : goal.returns-in-Bad
returns-in-Bad c = c.loop-turn.invariant.1

pub returns-in-End : goal.returns-in-End
returns-in-End c = c.loop-turn.invariant.1

pub loop-turn-preserved : goal.loop-turn-preserved
loop-turn-preserved c = (search rules, one_more _ _ _ _ c.answer-w.ensures c.loop-turn.invariant.1)

pub returns : goal.returns
returns c = c.loop-turn.invariant.1
