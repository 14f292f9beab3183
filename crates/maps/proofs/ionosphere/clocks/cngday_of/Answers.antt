-- `cngday_of` is `cngday_of`: both whole numbers are the definition's (`signed_word`), and the
-- literals are the decimals.
use Rattle.std.proofs.Common.{◌≡◌, ℤ, ◌+ℤ◌, ◌∙◌}
use lib.Ieee.{binary32, of_int, of_bits, round}
use Rattle.base.specs.Single.{decimal}
use Rattle.maps.specs.Clocks.{cngday_of}
use Rattle.maps.proofs.sums.WholeSums.{signed_word}
use Rattle.maps.proofs.ionosphere.clocks.cngday_of.Goals as goal

of_both : {a b a' b' : ℤ} → a ≡ a' → b ≡ b' → of_int binary32 (a +ℤ b) ≡ of_int binary32 (a' +ℤ b')
of_both p q = λ t. of_int binary32 (p t +ℤ q t)

pub returns : goal.returns
unfolding cngday_of decimal round of_bits
returns c = c.sum_of.ensures ∙ of_both (signed_word _ _ c.to_i32-int1.ensures) (signed_word _ _ c.to_i32-int2.ensures)
