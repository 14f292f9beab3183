-- A pattern of 32 bits is a finite number exactly where its exponent is not all ones, which a sum
-- that stays below the sign's bit tells; and so do the sums of several, gathered by `|`. Assumes
-- nothing.
use Rattle.std.proofs.Common.{◌≡◌, ℕ, zero, suc, ◌+◌, ◌*◌, ◌/◌, ◌%◌, ◌^◌, ◌<◌, ◌≤◌, Bool, true, false, cond, not, ◌&&◌, T, eqb, ltb, sym, refl, ap, ◌∙◌, arith, ltb-true, le-ltb, lt-ltb, eq-eqb, ne_eqb, bit_or}
use native.Mathlib.Decide.{dec_lt}
use lib.Bits.{or_lt, or_add_and, and_le_l, and_le_r}
use lib.Ieee.{inf, nan, binary32, odd, of_fields, of_bits, nan_bits}
use lib.Ieee.Bits.{is_true}
use lib.Ieee.Scale.{finite}
use Rattle.base.proofs.rounding.Patterns.{no_nan_bits}

-- ---- one pattern

odd_finite : (d : ℕ) (s : Bool) (q k l : ℕ) → finite (odd d s q k l) ≡ true
unfolding odd
odd_finite d s zero k l = refl
odd_finite d s (suc q) k l = refl

none_finite : (b s : Bool) → finite (cond b (inf s) nan) ≡ false
none_finite true s = refl
none_finite false s = refl

-- by the fields
by_exponent : (s : Bool) (e t : ℕ) → e ≤ 255 → finite (of_fields binary32 s e t) ≡ ltb e 255
unfolding of_fields
by_exponent s zero t h = odd_finite 24 s t 0 149
by_exponent s (suc e) t h = elim (dec_lt (suc e) 255) [
  | yes l ↦
      ap (λ (b : Bool). finite (cond b (cond (eqb t 0) (inf s) nan) (odd 24 s (2 ^ 23 + t) e 149))) (ne_eqb (suc e) 255 (λ q. omega arith))
      ∙ odd_finite 24 s (2 ^ 23 + t) e 149
      ∙ sym (lt-ltb (suc e) 255 l)
  | no g ↦
      ap (λ (b : Bool). finite (cond b (cond (eqb t 0) (inf s) nan) (odd 24 s (2 ^ 23 + t) e 149))) (eq-eqb (suc e) 255 (omega (arith, g)))
      ∙ none_finite (eqb t 0) s
      ∙ sym (le-ltb (suc e) 255 (omega (arith, g)))
]

-- two tests that hold together
same_test : (a b c d : ℕ) → (a < b → c < d) → (c < d → a < b) → ltb a b ≡ ltb c d
same_test a b c d f g = elim (dec_lt a b) [
  | yes l ↦ lt-ltb a b l ∙ sym (lt-ltb c d (f l))
  | no n ↦ elim (dec_lt c d) [
    | yes l ↦ absurd (n (g l))
    | no m ↦ le-ltb a b (omega (arith, n)) ∙ sym (le-ltb c d (omega (arith, m)))
  ]
]

-- the sign left out, the pattern is below the infinity's
pub finite_bits : (x : ℕ) → finite (of_bits binary32 x) ≡ ltb (x % 2 ^ 31) (255 * 2 ^ 23)
unfolding of_bits
finite_bits x =
    by_exponent _ (x % 2 ^ 31 / 2 ^ 23) (x % 2 ^ 23) (omega arith)
    ∙ same_test (x % 2 ^ 31 / 2 ^ 23) 255 (x % 2 ^ 31) (255 * 2 ^ 23) (λ l. omega arith) (λ l. omega arith)

pub finite_sum : (x : ℕ) → finite (of_bits binary32 x) ≡ ltb (x % 2 ^ 31 + 2 ^ 23) (2 ^ 31)
finite_sum x =
    finite_bits x ∙ same_test (x % 2 ^ 31) (255 * 2 ^ 23) (x % 2 ^ 31 + 2 ^ 23) (2 ^ 31) (λ l. omega arith) (λ l. omega arith)

-- and so is no NaN's
pub finite_no_nan : (x : ℕ) → T (finite (of_bits binary32 x)) → T (not (nan_bits binary32 x))
finite_no_nan x t =
    let l = ltb-true (x % 2 ^ 31) (255 * 2 ^ 23) (sym (finite_bits x) ∙ is_true (finite (of_bits binary32 x)) t) in
    no_nan_bits binary32 x (omega arith)

-- ---- several

or_below : (a b : ℕ) → bit_or a b < 2 ^ 31 → (a < 2 ^ 31) × (b < 2 ^ 31)
or_below a b h =
    let e = or_add_and a b in
    let l = and_le_l a b in
    let r = and_le_r a b in
    (omega (arith, e, r, h), omega (arith, e, l, h))

-- below the sign's bit together exactly where each is
pub gathered : (a b : ℕ) → ltb (bit_or a b) (2 ^ 31) ≡ (ltb a (2 ^ 31) && ltb b (2 ^ 31))
gathered a b = elim (dec_lt (bit_or a b) (2 ^ 31)) [
  | yes l ↦
      let both = or_below a b l in
      lt-ltb (bit_or a b) (2 ^ 31) l ∙ sym ((λ i. lt-ltb a (2 ^ 31) both.0 i && lt-ltb b (2 ^ 31) both.1 i))
  | no n ↦ le-ltb (bit_or a b) (2 ^ 31) (omega (arith, n)) ∙ sym (some (ltb a (2 ^ 31)) refl (ltb b (2 ^ 31)) refl n)
]
  where
    some : (p : Bool) → ltb a (2 ^ 31) ≡ p → (q : Bool) → ltb b (2 ^ 31) ≡ q → (bit_or a b < 2 ^ 31 → ⊥) → (p && q) ≡ false
    some true e true f n = absurd (n (or_lt 31 a b (ltb-true a (2 ^ 31) e) (ltb-true b (2 ^ 31) f)))
    some true e false f n = refl
    some false e q f n = refl
