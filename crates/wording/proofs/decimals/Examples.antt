-- Numbers that are read and words that are none, and floats, worked out by computation; and that a
-- decimal's float is `decimal` or `minus_decimal` of base. Assumes nothing.
use Rattle.std.proofs.Common.{ℕ, ◌^◌, ◌≡◌, refl, ap, ◌∙◌, true, false, List, [], ◌∷◌, Some, None}
use Prim.Native.Char.{code}
use Prim.Native.String.{String, [] as []ˢ, ◌∷◌ as ◌∷ˢ◌}
use lib.Ieee.{nan, binary32, round, to_bits}
use Rattle.base.specs.Single.{decimal, minus_decimal}
use Rattle.base.proofs.verdicts.Picks.{cond_true}
use Rattle.wording.specs.declared.number.Decimal.{Decimal}
use Rattle.wording.specs.Number.{all_digits, value_from, before_point, after_point, is_unsigned, unsigned_in, number_in, is_written, float_of}

abbrev bytes : String → List ℕ
bytes []ˢ = []
bytes (c ∷ˢ s) = code c ∷ bytes s

abbrev plus : ℕ → ℕ → Decimal
plus n k = record { negative = false; digits = n; places = k }

abbrev minus : ℕ → ℕ → Decimal
minus n k = record { negative = true; digits = n; places = k }

-- with and without a sign and a point, a point at either end, zeros in front and behind
numbers :
    (number_in (bytes "62.47") ≡ Some (plus 6247 2))
    × (number_in (bytes "-69") ≡ Some (minus 69 0))
    × (number_in (bytes "+3") ≡ Some (plus 3 0))
    × (number_in (bytes ".5") ≡ Some (plus 5 1))
    × (number_in (bytes "5.") ≡ Some (plus 5 0))
    × (number_in (bytes "-0") ≡ Some (minus 0 0))
    × (number_in (bytes "007.50") ≡ Some (plus 750 2))
unfolding number_in unsigned_in is_unsigned all_digits value_from before_point after_point
numbers = (refl, refl, refl, refl, refl, refl, refl)

-- 18 digits, zeros in front not counted, and 18 places
longest :
    (number_in (bytes "123456789012345678") ≡ Some (plus 123456789012345678 0))
    × (number_in (bytes "00999999999999999.999") ≡ Some (plus 999999999999999999 3))
    × (number_in (bytes "-0.000000000000000001") ≡ Some (minus 1 18))
unfolding number_in unsigned_in is_unsigned all_digits value_from before_point after_point
longest = (refl, refl, refl)

-- no digit, other signs than a number's, a second point, too many digits or places
no_numbers :
    (number_in (bytes "") ≡ None)
    × (number_in (bytes "-") ≡ None)
    × (number_in (bytes ".") ≡ None)
    × (number_in (bytes "--5") ≡ None)
    × (number_in (bytes "1e5") ≡ None)
    × (number_in (bytes "0x10") ≡ None)
    × (number_in (bytes "1.2.3") ≡ None)
    × (number_in (bytes "1234567890123456789") ≡ None)
    × (number_in (bytes "12345678901234567890") ≡ None)
    × (number_in (bytes "0.0000000000000000001") ≡ None)
unfolding number_in unsigned_in is_unsigned all_digits value_from before_point after_point
no_numbers = (refl, refl, refl, refl, refl, refl, refl, refl, refl, refl)

-- one that is exact, one that is not, a tie to the even one below and to that above, -0, the
-- smallest and the largest, and more digits than are read
floats :
    (to_bits binary32 (float_of (plus 925 1)) ≡ 0x42b90000)
    × (to_bits binary32 (float_of (minus 1 1)) ≡ 0xbdcccccd)
    × (to_bits binary32 (float_of (plus 16777217 0)) ≡ 0x4b800000)
    × (to_bits binary32 (float_of (plus 16777219 0)) ≡ 0x4b800002)
    × (to_bits binary32 (float_of (minus 0 0)) ≡ 0x80000000)
    × (to_bits binary32 (float_of (plus 1 18)) ≡ 0x219392ef)
    × (to_bits binary32 (float_of (plus 999999999999999999 0)) ≡ 0x5d5e0b6b)
    × (float_of (plus (10 ^ 18) 0) ≡ nan)
unfolding float_of round to_bits
floats = (refl, refl, refl, refl, refl, refl, refl, refl)

-- ---- the signs of base/specs/Single.antt
plain : (d : Decimal) → is_written d ≡ true → d.negative ≡ false → float_of d ≡ decimal d.digits d.places
unfolding float_of decimal
plain d w s = cond_true _ _ w ∙ ap (λ b. round binary32 b d.digits (10 ^ d.places)) s

plain_minus : (d : Decimal) → is_written d ≡ true → d.negative ≡ true → float_of d ≡ minus_decimal d.digits d.places
unfolding float_of minus_decimal
plain_minus d w s = cond_true _ _ w ∙ ap (λ b. round binary32 b d.digits (10 ^ d.places)) s
