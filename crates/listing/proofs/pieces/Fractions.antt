-- A written decimal as text: the digits after the point one by one, how many they are, and what a
-- decimal that reading gives is bounded by. Assumes nothing.
use Rattle.std.proofs.Common.{◌≡◌, refl, ap, true, [], ◌∷◌, ◌++◌, ℕ, zero, suc, ◌-◌, ◌^◌, ◌≤◌, ◌<◌, arith, ltb-true, leb-true, ltb, leb, length}
use Rattle.base.proofs.ladder.Ladders.{and_left, and_right}
use Rattle.wording.specs.declared.number.Decimal.{Decimal}
use Rattle.wording.specs.Number.{is_written}
use Rattle.listing.specs.Text.{digit_of}
use Rattle.listing.specs.Written.{places_text}

pub next_digit : (n k : ℕ) → 0 < k → places_text n k ≡ (digit_of n (k - 1) ∷ []) ++ places_text n (k - 1)
unfolding places_text
next_digit n k h =
    let e : k ≡ suc (k - 1) = omega arith in
    ap (places_text n) e

pub no_digits : (n k : ℕ) → k ≡ 0 → places_text n k ≡ []
unfolding places_text
no_digits n k e = ap (places_text n) e

pub length_fraction : (n k : ℕ) → length (places_text n k) ≡ k
unfolding places_text
length_fraction n zero = refl
length_fraction n (suc k) = ap suc (length_fraction n k)

-- ---- bounds

pub few_digits : (d : Decimal) → is_written d ≡ true → d.digits < 10 ^ 18
few_digits d e = ltb-true _ _ (and_left (ltb d.digits (10 ^ 18)) (leb d.places 18) e)

pub few_places : (d : Decimal) → is_written d ≡ true → d.places ≤ 18
few_places d e = leb-true _ _ (and_right (ltb d.digits (10 ^ 18)) (leb d.places 18) e)
