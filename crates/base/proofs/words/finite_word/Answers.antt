-- `finite_word` is `float_at`: a finite number's pattern is no NaN's.
use Rattle.std.proofs.Common.{ℕ, T, sym, ap, subst}
use lib.Ieee.{binary32, of_bits}
use lib.Ieee.Scale.{finite}
use Rattle.base.specs.Words.{float_at}
use Rattle.base.proofs.rounding.Exponents.{finite_no_nan}
use Rattle.base.proofs.words.finite_word.Goals as goal

pub float_from_bits-result : goal.float_from_bits-result
unfolding float_at
float_from_bits-result c =
    finite_no_nan c.whole_word.result
    (subst (λ (x : ℕ). T (finite (of_bits binary32 x))) (sym c.whole_word.ensures) c.requires.1)

pub returns : goal.returns
unfolding float_at
returns c = ap (of_bits binary32) c.whole_word.ensures
