-- `hmym_of` fills the array with `hmym_of`, by what one call of `blend` ensures.
use Rattle.std.proofs.Common.{arith, lit≤, rules}
use Rattle.base.specs.Tables.{xpmap}
use Rattle.base.proofs.lists.Maps.{height_map}
use Rattle.base.proofs.blend.hmym_of.Goals as goal

pub blend-requires : goal.blend-requires
blend-requires c =
    let p = c.requires in
    let l = c.blend-arg-1.given in
    (omega arith, omega arith, omega (arith, p.0), omega (arith, l), p.1.words xpmap (lit≤ tt) (lit≤ tt))

pub returns : goal.returns
returns c = height_map _ _ _ c.height_weights.ensures (search rules) c.blend.ensures
