-- `kept_in` gives the buffer the shorter list's places, by the loop's invariant that it has those of
-- the calls before place j.
use Rattle.std.proofs.Common.{ℕ, ◌≡◌, ap, ◌∙◌, arith}
use Rattle.auditing.specs.Marks.{kept_places, pile, all_given}
use Rattle.auditing.proofs.places.Piles.{kept_start, kept_next, all_kept}
use Rattle.auditing.proofs.marks.kept_in.Goals as goal

pub loop-j-init : goal.loop-j-init
loop-j-init c = let a = c.args in kept_start a.marks.now (pile 0 a.out.now)

pub loop-j-preserved : goal.loop-j-preserved
loop-j-preserved c =
    let l = c.loop-j in
    kept_next _ l.j (pile 0 c.args.out.now) l.invariant c.push_kept-size.ensures

pub returns : goal.returns
returns c =
    let l = c.loop-j in
    let a = c.args in
    let e : l.j ≡ a.count = omega arith in
    all_kept (kept_places a.marks.now a.count) a.out.now l.out l.size
    (l.invariant ∙ ap (λ (i : ℕ). all_given (kept_places a.marks.now i) (pile 0 a.out.now)) e)
