-- '`timvar_clck` corrects once: 24 stays, 0 becomes 24' (document 01, Figures), of every hour and
-- longitude whose sum is one of these: the correction is computed at 24, at +0 and at -0. Assumes
-- nothing.
use Rattle.std.proofs.Common.{◌≡◌, refl, ap, ◌∙◌, cond, Float}
use lib.Ieee.{round, neg, add, sub, lt, le}
use Rattle.base.specs.declared.angle.Radians.{Radians}
use Rattle.base.specs.Single.{◌⊕◌, ◌⊖◌, decimal, minus_decimal}
use Rattle.maps.specs.Layers.{clock_of}
use Rattle.results.specs.AsInTheRust.{uncorrected}

abbrev corrected : Float → Float
corrected c = cond (lt (decimal 240 1 ⊖ c) (decimal 0 1)) (c ⊖ decimal 240 1) (cond (le c (decimal 0 1)) (c ⊕ decimal 240 1) c)

at_24 : corrected (decimal 240 1) ≡ decimal 240 1
unfolding decimal round neg add sub lt le
at_24 = refl

at_0 : corrected (decimal 0 1) ≡ decimal 240 1
unfolding decimal round neg add sub lt le
at_0 = refl

at_minus_0 : corrected (minus_decimal 0 1) ≡ decimal 240 1
unfolding decimal minus_decimal round neg add sub lt le
at_minus_0 = refl

module _ (gmt : Float) (lon : Radians) where
  is_corrected : clock_of gmt lon ≡ corrected (uncorrected gmt lon)
  unfolding clock_of
  is_corrected = refl

  -- '24 stays'
  pub clock_24_stays : uncorrected gmt lon ≡ decimal 240 1 → clock_of gmt lon ≡ decimal 240 1
  clock_24_stays e = is_corrected ∙ ap corrected e ∙ at_24

  -- '0 becomes 24', whichever zero it is
  pub clock_0_becomes_24 : uncorrected gmt lon ≡ decimal 0 1 → clock_of gmt lon ≡ decimal 240 1
  clock_0_becomes_24 e = is_corrected ∙ ap corrected e ∙ at_0

  pub clock_minus_0_becomes_24 : uncorrected gmt lon ≡ minus_decimal 0 1 → clock_of gmt lon ≡ decimal 240 1
  clock_minus_0_becomes_24 e = is_corrected ∙ ap corrected e ∙ at_minus_0
