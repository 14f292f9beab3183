-- `pair_place` is the part `pair_part`, by whether the pair and its part lie in the file.
use Rattle.std.proofs.Common.{◌≡◌, ℕ, sym, ap, ◌∙◌, arith}
use Rattle.base.specs.MonthFile.{Part, empty_part}
use Rattle.base.specs.Year.{end_at, pair_part}
use Rattle.base.proofs.layout.Directories.{part_there, part_cut, part_beyond}
use Rattle.base.proofs.year.pair_place.Goals.{Joined-then-year-k, then-year-k-via-then-year-k, then-year-k-via-else-year-k+then-year-end}
use Rattle.base.proofs.year.pair_place.Goals as goal

abbrev from_of : Part → ℕ
from_of p = p.from

abbrev size_of : Part → ℕ
size_of p = p.size

nowhere : (c : Joined-then-year-k) → pair_part c.args.year.now c.args.k ≡ empty_part
nowhere c =
    elim c.then-year-k.branch [
      | then-year-k-via-then-year-k w ↦ part_cut _ _ w.if-year-k.true
      | then-year-k-via-else-year-k+then-year-end w ↦ part_beyond _ _ w.if-year-k.false (omega (arith, w.end.ensures, w.if-year-end.true))
    ]

pub returns-then-year-k : goal.returns-then-year-k
returns-then-year-k c =
    let p = nowhere (goal.at.returns-then-year-k c).Joined-then-year-k in
    record { start = sym (ap from_of p); size = sym (ap size_of p); within = omega arith }

pub returns : goal.returns
unfolding end_at
returns c =
    let o = c.offset.ensures.answer in
    let z = c.size.ensures.answer in
    let e = c.end.ensures in
    let h = c.if-year-end.false in
    let a = c.args in
    let p = part_there a.year.now a.k c.if-year-k.false (omega (arith, e, h)) in
    record { start = o ∙ sym (ap from_of p); size = z ∙ sym (ap size_of p); within = omega (arith, o, z, e, h) }
