-- What an `f64`'s bits stand for, by the fields: the sign, the exponent's and the digits'. Assumes
-- nothing.
use Rattle.std.proofs.Common.{◌≡◌, ℕ, zero, suc, ◌+◌, ◌-◌, ◌*◌, ◌/◌, ◌%◌, ◌^◌, ◌<◌, Bool, true, false, cond, T, eqb, leb, sym, refl, ap, ◌∙◌, subst, lt_irrefl, add_comm, arith, le→leb, eqb→eq, Float}
use lib.Dec.{not_T}
use lib.Arith.{lt→nleb}
use lib.Ieee.{inf, binary64, of_fields, of_bits}
use lib.Ieee.Exact.{HasValue, odd_sign}
use lib.Ieee.Bits.{is_true, is_false, cond_no}

pub decode : (s : Bool) (b : ℕ) → b < 2 ^ 63 → of_bits binary64 (cond s (2 ^ 63) 0 + b) ≡ of_fields binary64 s (b / 2 ^ 52) (b % 2 ^ 52)
unfolding of_bits
decode true b h =
    let x = 2 ^ 63 + b in
    let p : leb (2 ^ 63) x ≡ true = is_true (leb (2 ^ 63) x) (le→leb (2 ^ 63) x (omega arith)) in
    let q : x % 2 ^ 63 / 2 ^ 52 ≡ b / 2 ^ 52 = omega arith in
    let r : x % 2 ^ 52 ≡ b % 2 ^ 52 = omega arith in
    λ i. of_fields binary64 (p i) (q i) (r i)
decode false b h =
    let x = 0 + b in
    let p : leb (2 ^ 63) x ≡ false = is_false (leb (2 ^ 63) x) (lt→nleb (2 ^ 63) x (omega arith)) in
    let q : x % 2 ^ 63 / 2 ^ 52 ≡ b / 2 ^ 52 = omega arith in
    let r : x % 2 ^ 52 ≡ b % 2 ^ 52 = omega arith in
    λ i. of_fields binary64 (p i) (q i) (r i)

normal_val : (s : Bool) (x t : ℕ) → suc x < 2047 → HasValue (of_fields binary64 s (suc x) t) s ((2 ^ 52 + t) * 2 ^ x) (2 ^ 1074)
unfolding of_fields
normal_val s x t h = subst (λ (v : Float). HasValue v s ((2 ^ 52 + t) * 2 ^ x) (2 ^ 1074)) (sym (cond_no (eqb (suc x) 2047) _ _ (not_T (eqb (suc x) 2047) (λ (e : T (eqb (suc x) 2047)). omega (arith, eqb→eq (suc x) 2047 e))))) (odd_sign 53 s (2 ^ 52 + t) x 1074)

pub subnormal_val : (s : Bool) (t : ℕ) → HasValue (of_fields binary64 s 0 t) s (t * 2 ^ 0) (2 ^ 1074)
unfolding of_fields
subnormal_val s t = odd_sign 53 s t 0 1074

pub infinite : (s : Bool) → of_fields binary64 s 2047 0 ≡ inf s
unfolding of_fields
infinite s = refl

pub field_val : (s : Bool) (x t : ℕ) → 0 < x → x < 2047 → HasValue (of_fields binary64 s x t) s ((t + 2 ^ 52) * 2 ^ (x - 1)) (2 ^ 1074)
field_val s zero t l h = absurd (lt_irrefl 0 l)
field_val s (suc x) t l h =
    subst (λ (a : ℕ). HasValue (of_fields binary64 s (suc x) t) s a (2 ^ 1074)) (ap (λ (z : ℕ). z * 2 ^ x) (add_comm (2 ^ 52) t) ∙ ap (λ (z : ℕ). (t + 2 ^ 52) * 2 ^ z) (omega arith)) (normal_val s x t h)
