-- `magnitude` is the pattern of n / d rounded, by the invariants of the two loops (`Widened`,
-- `Divided`): n / d stays the same number of units, whichever of the two is doubled.
use Rattle.std.proofs.Common.{◌≡◌, sym, ap, ◌∙◌, subst, cond, ℕ, ◌+◌, ◌*◌, ◌^◌, ◌<◌, add-zero, arith, lit≤}
use Rattle.wording.proofs.number.magnitude.Goals.{then-rest-by, else-rest-by}
use lib.Ieee.{binary32, of_bits, round}
use Rattle.wording.proofs.decimals.Dividing.{same_first, few, early, wider, Divided, divided, more, turn_zero, turn_one, last, fits, pattern, zero_pattern}
use Rattle.wording.proofs.number.magnitude.Goals.{In-loop-q}
use Rattle.wording.proofs.number.magnitude.Goals.{After-to_nearest}
use Rattle.wording.proofs.number.magnitude.Goals as goal

moved : {n d b k q rest q' rest' : ℕ} → q' ≡ q → rest' ≡ rest → Divided n d b k q rest → Divided n d b k q' rest'
moved {n} {d} {b} {k} e f t = rw (e, f) t

pub returns-then-n-eq0 : goal.returns-then-n-eq0
returns-then-n-eq0 c =
    let n = c.args.n in
    record { bound = lit≤ tt; value = λ s. ap (of_bits binary32) (add-zero (cond s (2 ^ 31) 0)) ∙ zero_pattern s c.args.d c.requires.1 ∙ ap (λ x. round binary32 s x c.args.d) (sym c.if-n-eq0.true) }

pub loop-by-init : goal.loop-by-init
loop-by-init c = record { above = omega arith; small = omega arith; same = same_first _ _ }

pub nonzero_div-n : goal.nonzero_div-n
nonzero_div-n c = omega arith

pub overflow_mul-by : goal.overflow_mul-by
overflow_mul-by c = omega (arith, few c.loop-by.invariant c.loop-by-test.true c.requires.0 c.requires.1)

pub overflow_add-k : goal.overflow_add-k
overflow_add-k c = omega (arith, early c.loop-by.invariant c.loop-by-test.true c.requires.0 c.requires.1)

pub loop-by-smaller : goal.loop-by-smaller
loop-by-smaller c = omega (arith, early c.loop-by.invariant c.loop-by-test.true c.requires.0 c.requires.1)

pub loop-by-preserved : goal.loop-by-preserved
loop-by-preserved c = wider c.loop-by.invariant c.loop-by-test.true c.requires.0 c.requires.1

pub nonzero_div-q : goal.nonzero_div-q
nonzero_div-q c = c.loop-by.invariant.above

pub nonzero_rem-rest : goal.nonzero_rem-rest
nonzero_rem-rest c = c.loop-by.invariant.above

pub loop-q-init : goal.loop-q-init
loop-q-init c = divided c.loop-by.invariant c.loop-by-test.false

pub overflow_mul-q : goal.overflow_mul-q
overflow_mul-q c = omega arith

pub overflow_mul-rest : goal.overflow_mul-rest
overflow_mul-rest c = omega arith

pub overflow_add-q : goal.overflow_add-q
overflow_add-q c = omega arith

-- there is a turn more to take
left : (c : In-loop-q) → 0 < c.loop-q.k
left c =
    let p = c.requires in
    more c.loop-q.invariant c.loop-q-test.true (omega arith) p.1 p.2

pub overflow_sub-k : goal.overflow_sub-k
overflow_sub-k c = left (goal.at.overflow_sub-k c).In-loop-q

pub loop-q-smaller : goal.loop-q-smaller
loop-q-smaller c = omega (arith, left (goal.at.loop-q-smaller c).In-loop-q)

pub loop-q-preserved : goal.loop-q-preserved
loop-q-preserved c =
    let p = c.requires in
    let t = c.loop-q.invariant in
    let Q = c.loop-q-test.true in
    let N : 0 < c.args.n = omega arith in
    elim c.if-rest-by.branch [
      | then-rest-by w ↦ moved w.q-is w.rest-is (turn_one t Q N p.1 p.2 w.if-rest-by.true)
      | else-rest-by w ↦ moved w.q-is w.rest-is (turn_zero t Q N p.1 p.2 w.if-rest-by.false)
    ]

pub overflow_mul-result : goal.overflow_mul-result
overflow_mul-result c =
    let p = c.requires in
    omega (arith, last c.loop-q.invariant c.loop-q-test.false p.0 p.1)

pub to_nearest-requires : goal.to_nearest-requires
to_nearest-requires c = omega arith

small : (c : After-to_nearest) → c.loop-q.k * 2 ^ 23 + c.to_nearest.result < 2 ^ 31
small c =
    let l = c.loop-q in
    let p = c.requires in
    subst (λ x. l.k * 2 ^ 23 + x < 2 ^ 31) (sym c.to_nearest.ensures) (fits l.invariant c.loop-q-test.false p.0 p.1)

pub overflow_add-result : goal.overflow_add-result
overflow_add-result c = omega (arith, small (goal.at.overflow_add-result c).After-to_nearest)

pub returns : goal.returns
returns c =
    let l = c.loop-q in
    let p = c.requires in
    record { bound = small (goal.at.returns c).After-to_nearest; value = λ s. ap (λ x. of_bits binary32 (cond s (2 ^ 31) 0 + (l.k * 2 ^ 23 + x))) c.to_nearest.ensures ∙ pattern l.invariant c.loop-q-test.false p.0 p.1 s }
