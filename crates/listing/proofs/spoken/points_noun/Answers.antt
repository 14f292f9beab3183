-- `points_noun` is one point or more, by their number.
use Rattle.std.proofs.Common.{refl, arith, ne_eqb}
use Rattle.listing.proofs.spoken.points_noun.Goals as goal

pub returns-in-1 : goal.returns-in-1
returns-in-1 c = rw c.in-1.is refl

pub returns-in_default : goal.returns-in_default
returns-in_default c = simp (ne_eqb c.args.count 1 (λ e. omega arith)) refl
