-- `is_negative` is `negative`: std's sign, which a NaN has not.
use Rattle.std.proofs.Common.{not, ap, ◌∙◌}
use Rattle.base.proofs.rounding.Patterns.{is_nan_law}
use Rattle.base.proofs.rounding.Signs.{negative_is, nan_sign, by_test}
use Rattle.base.proofs.number.is_negative.Goals as goal

pub returns-then-not-is_nan : goal.returns-then-not-is_nan
returns-then-not-is_nan c = c.is_sign_negative.ensures ∙ negative_is c.args.x

pub returns-else-not-is_nan : goal.returns-else-not-is_nan
returns-else-not-is_nan c =
    ap not c.if-not-is_nan.false ∙ nan_sign c.args.x (is_nan_law c.args.x (by_test _ c.is_nan.ensures.value c.if-not-is_nan.false))
