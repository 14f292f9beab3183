-- `magnitude` is the narrowed pattern, case by case of the exponent's field (`Narrowing`).
use Rattle.std.proofs.Common.{ℕ, ◌+◌, ◌-◌, ◌*◌, ◌/◌, ◌%◌, ◌^◌, ◌≤◌, sym, subst, le_trans, lt_of_lt_of_le, arith, lit≤, pow_mono}
use Rattle.base.proofs.rounding.Rounding.{closest_le}
use Rattle.base.proofs.rounding.Narrowing.{Narrows, zero_case, low_case, mid_case, inf_case}
use Rattle.base.proofs.number.magnitude.Goals.{After-half_even-then-exponent-lt1151}
use Rattle.base.proofs.number.magnitude.Goals as goal

small : (c : After-half_even-then-exponent-lt1151) → c.half_even-then-exponent-lt1151.result ≤ 2 ^ 24
small c =
    let m = c.args.b % 2 ^ 52 + 2 ^ 52 in
    subst (λ (r : ℕ). r ≤ 2 ^ 24) (sym c.half_even-then-exponent-lt1151.ensures) (closest_le 24 m 29 (omega arith))

pub returns-then-exponent-le872 : goal.returns-then-exponent-le872
returns-then-exponent-le872 c = record { bound = lit≤ tt; value = zero_case c.args.b c.requires c.if-exponent-le872.true }

pub returns-then-exponent-lt897 : goal.returns-then-exponent-lt897
returns-then-exponent-lt897 c =
    let b = c.args.b in
    let m = b % 2 ^ 52 + 2 ^ 52 in
    let n = 926 - b / 2 ^ 52 in
    let e = c.half_even.ensures in
    record {
      bound = subst (λ (r : ℕ). r ≤ 255 * 2 ^ 23) (sym e) (le_trans (closest_le 24 m n (lt_of_lt_of_le (omega arith) (pow_mono {i = 53} {j = 24 + n} (omega arith)))) (lit≤ tt));
      value = subst (Narrows b) (sym e) (low_case b c.requires (omega arith) (omega arith));
    }

pub returns-then-exponent-lt1151 : goal.returns-then-exponent-lt1151
returns-then-exponent-lt1151 c =
    let b = c.args.b in
    let l = small (goal.at.returns-then-exponent-lt1151 c).After-half_even-then-exponent-lt1151 in
    record { bound = omega arith; value = subst (λ (r : ℕ). Narrows b ((b / 2 ^ 52 - 897) * 2 ^ 23 + r)) (sym c.half_even-then-exponent-lt1151.ensures) (mid_case b c.requires (omega arith) (omega arith)) }

pub returns-else-exponent-lt1151 : goal.returns-else-exponent-lt1151
returns-else-exponent-lt1151 c = record { bound = lit≤ tt; value = inf_case c.args.b c.requires c.if-exponent-lt1151.false }
