-- `flag_name` is the name of the flag, by its number.
use Rattle.std.proofs.Common.{refl, arith, ne_eqb}
use Rattle.listing.proofs.fields.flag_name.Goals as goal

pub returns-in-0 : goal.returns-in-0
returns-in-0 c = rw c.in-0.is refl

pub returns-in-1 : goal.returns-in-1
returns-in-1 c = rw c.in-1.is refl

pub returns-in_default : goal.returns-in_default
returns-in_default c = simp (ne_eqb c.args.flag 0 (λ e. omega arith), ne_eqb c.args.flag 1 (λ e. omega arith)) refl
