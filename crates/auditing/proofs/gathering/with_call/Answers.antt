-- `with_call` goes on with a call, by the stage: only on a worksheet is it made.
use Rattle.std.proofs.Common.{ap, inl, inr, arith}
use Rattle.auditing.specs.Gathered.{Gathering, with_call}
use Rattle.auditing.proofs.journals.Turns.{goes_call, goes_call_early, waiting_sits, ended_sits}
use Rattle.auditing.proofs.gathering.with_call.Goals as goal

pub returns-in-Waiting : goal.returns-in-Waiting
returns-in-Waiting c =
    let e = c.ended.ensures in
    record { told = goes_call_early _ _ _ _ _ _ (λ q. elim c.in-Waiting.is [ inl s ↦ waiting_sits _ s q | inr s ↦ ended_sits _ s q ]) e; count = omega (arith, c.requires) }

pub returns-in-Sits : goal.returns-in-Sits
unfolding with_call
returns-in-Sits c =
    let e = c.with_made.ensures in
    let n = ap (λ (h : Gathering). h.gathered.count) e in
    record { told = goes_call _ _ _ _ _ c.in-Sits.is e; count = omega (arith, c.requires) }
