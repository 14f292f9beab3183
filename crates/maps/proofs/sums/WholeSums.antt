-- A sum of two `i32` as an `f32`: an `i64` holds it, an `f64` holds that without rounding, so that
-- narrowing alone rounds. Assumes nothing.
use Rattle.std.proofs.Common.{◌≡◌, suc, ◌+◌, ◌-◌, ◌^◌, ◌<◌, ◌≤◌, Bool, true, false, cond, ltb, ℤ, pos, negsuc, ◌+ℤ◌, sym, ap, ◌∙◌, subst, arith, lit<, to_z-of_z, w32, w64, SFits, to_z, of_z, Float}
use lib.Signed.{mag}
use lib.Ieee.{binary32, binary64, of_int, round, to_signed}
use lib.Ieee.Back.{round_whole}
use lib.Ieee.Casts.{to_signed_in}
use mir.Facts.{sfits_widen}
use Rattle.base.specs.Number.{narrow_of}
use Rattle.base.proofs.rounding.Narrowing.{narrow_val}

-- x without its fraction fits a word, and is itself through one
signed_fits : (x : Float) → SFits w32 (to_signed 31 x)
signed_fits x = record { sfits = to_signed_in 31 x }

pub signed_word : (x : Float) (z : ℤ) → z ≡ to_signed 31 x → to_z w32 (of_z w32 z) ≡ to_signed 31 x
signed_word x z e = ap (λ (n : ℤ). to_z w32 (of_z w32 n)) e ∙ to_z-of_z (signed_fits x)

pub wide : (z : ℤ) → SFits w32 z → SFits w64 (to_z w32 (of_z w32 z))
wide z p = subst (SFits w64) (sym (to_z-of_z p)) (sfits_widen tt p)

back : (z : ℤ) → SFits w32 z → to_z w64 (of_z w64 (to_z w32 (of_z w32 z))) ≡ z
back z p = ap (λ (n : ℤ). to_z w64 (of_z w64 n)) (to_z-of_z p) ∙ to_z-of_z {w = w64} (sfits_widen {w = w32} {w' = w64} (tt {0}) p)

mag_sum : (a b : ℤ) → mag (a +ℤ b) ≤ mag a + mag b + 1
mag_sum (pos a) (pos b) = omega arith
mag_sum (negsuc a) (negsuc b) = omega arith
mag_sum (pos a) (negsuc b) = go (ltb a (suc b))
  where
    go : (t : Bool) → mag (cond t (negsuc (suc b - suc a)) (pos (a - suc b))) ≤ a + b + 1
    go true = omega arith
    go false = omega arith
mag_sum (negsuc a) (pos b) = go (ltb b (suc a))
  where
    go : (t : Bool) → mag (cond t (negsuc (suc a - suc b)) (pos (b - suc a))) ≤ a + b + 1
    go true = omega arith
    go false = omega arith

narrow_whole : (z : ℤ) → mag z < 2 ^ 52 → narrow_of (of_int binary64 z) ≡ of_int binary32 z
unfolding of_int
narrow_whole (pos n) h = narrow_val (round binary64 false n 1) false n 1 (lit< tt) (round_whole binary64 false n (omega arith))
narrow_whole (negsuc n) h = narrow_val (round binary64 true (suc n) 1) true (suc n) 1 (lit< tt) (round_whole binary64 true (suc n) (omega arith))

module _ (a b : ℤ) (p : SFits w32 a) (q : SFits w32 b) where
  both : to_z w64 (of_z w64 (to_z w32 (of_z w32 a))) +ℤ to_z w64 (of_z w64 (to_z w32 (of_z w32 b))) ≡ a +ℤ b
  both = ap (λ (n : ℤ). n +ℤ to_z w64 (of_z w64 (to_z w32 (of_z w32 b)))) (back a p) ∙ ap (λ (n : ℤ). a +ℤ n) (back b q)

  small : mag (a +ℤ b) < 2 ^ 33
  small = let i = p.sfits in let j = q.sfits in let h = mag_sum a b in omega arith

  fits : SFits w64 (a +ℤ b)
  fits = record { sfits = let h = small in omega arith }

  pub sum_fits : SFits w64 (to_z w64 (of_z w64 (to_z w32 (of_z w32 a))) +ℤ to_z w64 (of_z w64 (to_z w32 (of_z w32 b))))
  sum_fits = subst (SFits w64) (sym both) fits

  pub sum_narrow : narrow_of (of_int binary64 (to_z w64 (of_z w64 (to_z w64 (of_z w64 (to_z w32 (of_z w32 a))) +ℤ to_z w64 (of_z w64 (to_z w32 (of_z w32 b))))))) ≡ of_int binary32 (a +ℤ b)
  sum_narrow =
      ap (λ (n : ℤ). narrow_of (of_int binary64 (to_z w64 (of_z w64 n)))) both
      ∙ ap (λ (n : ℤ). narrow_of (of_int binary64 n)) (to_z-of_z fits)
      ∙ narrow_whole (a +ℤ b) (let h = small in omega arith)
