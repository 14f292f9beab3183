-- `ln_bits` is `ln_of` of its pattern: a subnormal's digits are shifted up first (`subnormal_ln`), a
-- normal number's are read off (`normal_ln`).
use Rattle.std.proofs.Common.{◌∙◌, arith}
use Rattle.base.proofs.rounding.Sorts.{lead, no_wrap}
use Rattle.base.proofs.steps.Logs.{normal_ln, subnormal_ln}
use Rattle.base.proofs.elementary.ln_bits.Goals as goal

pub overflow_sub-shift : goal.overflow_sub-shift
overflow_sub-shift c = (lead c.args.b c.requires.0 c.if-b-lt4503599627370496.true).0

pub ln_scaled-requires : goal.ln_scaled-requires
ln_scaled-requires c = omega (arith, no_wrap c.args.b c.requires.0 c.if-b-lt4503599627370496.true, (lead c.args.b c.requires.0 c.if-b-lt4503599627370496.true).2, (lead c.args.b c.requires.0 c.if-b-lt4503599627370496.true).3)

pub returns-then-b-lt4503599627370496 : goal.returns-then-b-lt4503599627370496
returns-then-b-lt4503599627370496 c = c.ln_scaled.ensures ∙ subnormal_ln c.args.b c.requires.0 c.if-b-lt4503599627370496.true

pub returns-else-b-lt4503599627370496 : goal.returns-else-b-lt4503599627370496
returns-else-b-lt4503599627370496 c = c.ln_scaled-else-b-lt4503599627370496.ensures ∙ normal_ln c.args.b c.if-b-lt4503599627370496.false c.requires.1
