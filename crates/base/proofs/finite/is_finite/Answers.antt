-- `is_finite` is `finite` of the word's number: a pattern is a finite number's exactly where, the
-- sign left out, it is below the infinity's (`finite_bits`).
use Rattle.std.proofs.Common.{sym, ap, ◌∙◌}
use lib.Ieee.{binary32, of_bits}
use lib.Ieee.Scale.{finite}
use Rattle.base.specs.Words.{float_at}
use Rattle.base.proofs.rounding.Exponents.{finite_bits}
use Rattle.base.proofs.finite.is_finite.Goals as goal

pub returns : goal.returns
unfolding float_at
returns c = sym (finite_bits _) ∙ ap (λ w. finite (of_bits binary32 w)) c.word.ensures
