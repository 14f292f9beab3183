-- `with_open` goes on with an open, by the stage: only where nothing was told does it open anything.
use Rattle.std.proofs.Common.{ap, inl, inr, arith}
use Rattle.auditing.specs.declared.gathering.Gathered.{Gathered}
use Rattle.auditing.specs.Gathered.{opened_as}
use Rattle.auditing.proofs.journals.Turns.{goes_open, goes_open_late, waiting_sits, waiting_ended}
use Rattle.auditing.proofs.gathering.with_open.Goals as goal

pub returns-in-Waiting : goal.returns-in-Waiting
unfolding opened_as
returns-in-Waiting c =
    let a = c.args in
    let p = c.opened_as.ensures in
    let n = ap (λ (x : Gathered). x.count) p in record {
      told = λ source marks numbers starts.
          goes_open source a.n a.s a.o a.g marks numbers starts c.in-Waiting.is p;
      count = omega arith;
    }

pub returns-in-Sits : goal.returns-in-Sits
returns-in-Sits c =
    let e = c.ended.ensures in record {
      told = λ source marks numbers starts.
          goes_open_late _ _ _ _ _ _
          (λ q. elim c.in-Sits.is [ inl s ↦ waiting_sits _ q s | inr s ↦ waiting_ended _ q s ]) e;
      count = omega arith;
    }
