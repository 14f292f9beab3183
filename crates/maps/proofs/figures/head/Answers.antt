-- `head` is `head_of`: the list is written out in the definition's order, its last number by a call.
use Rattle.std.proofs.Common.{[], ◌∷◌, ap}
use Rattle.base.specs.declared.angle.Degrees.{Degrees}
use Rattle.maps.specs.Figures.{head_of}
use Rattle.maps.proofs.figures.head.Goals as goal

pub returns : goal.returns
unfolding head_of
returns c =
    let g = c.args.g in
    ap (λ (a : Degrees). g.gcd.0 ∷ g.gcd_km ∷ g.btr.0 ∷ g.brt.0 ∷ g.rlatd.0 ∷ a.0 ∷ []) c.alatd.ensures
