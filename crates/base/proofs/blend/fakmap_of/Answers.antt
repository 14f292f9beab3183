-- `fakmap_of` fills the array with `fakmap_of`: `read_floats` reads all its 464 words.
use Rattle.std.proofs.Common.{ap, ◌∙◌, arith, lit≤, rules}
use Rattle.base.specs.Fill.{tabulate}
use Rattle.base.specs.Tables.{fakmap}
use Rattle.base.specs.Blend.{fakmap_of}
use Rattle.base.proofs.blend.fakmap_of.Goals as goal

pub read_floats-requires : goal.read_floats-requires
read_floats-requires c =
    let p = c.requires in
    let l = c.read_floats-arg-1.given in
    (omega (arith, p.0, l), λ i h. p.1.words fakmap (lit≤ tt) (lit≤ tt) i (omega (arith, l, h)))

pub returns : goal.returns
unfolding fakmap_of
returns c = c.read_floats.ensures ∙ ap (tabulate _) (search rules)
