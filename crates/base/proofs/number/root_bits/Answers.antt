-- `root_bits` is the pattern of `sqrt_of`: a subnormal's digits are shifted up first
-- (`subnormal_root`), a normal number's are read off (`normal_root`).
use Rattle.std.proofs.Common.{sym, subst, arith}
use Rattle.base.proofs.rounding.Sorts.{Rooted, lead, no_wrap, subnormal_root, normal_root}
use Rattle.base.proofs.number.root_bits.Goals as goal

pub overflow_cast-shift : goal.overflow_cast-shift
overflow_cast-shift c = omega (arith, (lead c.args.b c.requires.0 c.if-b-lt4503599627370496.true).1)

pub overflow_sub-shift : goal.overflow_sub-shift
overflow_sub-shift c = (lead c.args.b c.requires.0 c.if-b-lt4503599627370496.true).0

pub overflow_shl-b : goal.overflow_shl-b
overflow_shl-b c = omega (arith, (lead c.args.b c.requires.0 c.if-b-lt4503599627370496.true).1)

pub overflow_sub-shift-then-b-lt4503599627370496 : goal.overflow_sub-shift-then-b-lt4503599627370496
overflow_sub-shift-then-b-lt4503599627370496 c = omega (arith, (lead c.args.b c.requires.0 c.if-b-lt4503599627370496.true).1)

pub scaled_root-requires : goal.scaled_root-requires
scaled_root-requires c = omega (arith, no_wrap c.args.b c.requires.0 c.if-b-lt4503599627370496.true, (lead c.args.b c.requires.0 c.if-b-lt4503599627370496.true).1, (lead c.args.b c.requires.0 c.if-b-lt4503599627370496.true).2, (lead c.args.b c.requires.0 c.if-b-lt4503599627370496.true).3)

pub returns-then-b-lt4503599627370496 : goal.returns-then-b-lt4503599627370496
returns-then-b-lt4503599627370496 c =
    let p = subst (Rooted c.args.b) (sym c.scaled_root.ensures) (subnormal_root c.args.b c.requires.0 c.if-b-lt4503599627370496.true) in
    record { bound = p.0; value = p.1 }

pub returns-else-b-lt4503599627370496 : goal.returns-else-b-lt4503599627370496
returns-else-b-lt4503599627370496 c =
    let p = subst (Rooted c.args.b) (sym c.scaled_root-else-b-lt4503599627370496.ensures) (normal_root c.args.b c.if-b-lt4503599627370496.false c.requires.1) in
    record { bound = p.0; value = p.1 }
