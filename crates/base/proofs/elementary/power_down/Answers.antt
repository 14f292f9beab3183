-- `power_down` is 1 / 2 ^ k: by the exponent's field, then by one digit below the normal numbers,
-- then 0.
use Rattle.std.proofs.Common.{◌≡◌, ℕ, ◌-◌, ◌*◌, ◌%◌, ◌^◌, ◌<◌, ◌≤◌, ap, ◌∙◌, lt_of_lt_of_le, mod-eq_of_lt, one-mul, arith, lit≤}
use lib.Pow.{pow-lt}
use lib.Ieee.{binary64, of_bits}
use Rattle.base.proofs.rounding.Patterns.{no_nan_bits}
use Rattle.base.proofs.rounding.Twos.{down_bits, down_low, down_zero}
use Rattle.base.proofs.elementary.power_down.Goals as goal

pub float_from_bits-result : goal.float_from_bits-result
float_from_bits-result c = no_nan_bits binary64 ((1023 - c.args.k) * 2 ^ 52) (omega arith)

small : (k : ℕ) → 1023 ≤ k → 2 ^ (1074 - k) < 2 ^ 52
small k h = pow-lt {i = 1074 - k} {j = 52} (omega arith)

shifted : (k : ℕ) → 1023 ≤ k → 1 * 2 ^ (1074 - k) % 2 ^ 64 ≡ 2 ^ (1074 - k)
shifted k h = ap (λ (x : ℕ). x % 2 ^ 64) (one-mul (2 ^ (1074 - k))) ∙ mod-eq_of_lt (lt_of_lt_of_le (small k h) (lit≤ tt))

pub float_from_bits-result-then-k-lt1075 : goal.float_from_bits-result-then-k-lt1075
float_from_bits-result-then-k-lt1075 c =
    let k = c.args.k in
    let s = small k c.if-k-lt1023.false in
    no_nan_bits binary64 (1 * 2 ^ (1074 - k) % 2 ^ 64) (omega (arith, shifted k c.if-k-lt1023.false))

pub returns-then-k-lt1023 : goal.returns-then-k-lt1023
returns-then-k-lt1023 c = down_bits c.args.k c.if-k-lt1023.true

pub returns-then-k-lt1075 : goal.returns-then-k-lt1075
returns-then-k-lt1075 c = ap (of_bits binary64) (shifted c.args.k c.if-k-lt1023.false) ∙ down_low c.args.k c.if-k-lt1023.false c.if-k-lt1075.true

pub returns-else-k-lt1075 : goal.returns-else-k-lt1075
returns-else-k-lt1075 c = down_zero c.args.k c.if-k-lt1075.false
