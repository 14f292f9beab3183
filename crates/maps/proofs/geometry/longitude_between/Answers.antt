-- `longitude_between` folds once, and turns once more for the long way.
use Rattle.std.proofs.Common.{sym, ap, ◌∙◌}
use Rattle.maps.specs.Geometry.{turned_of, dlong_of}
use Rattle.base.proofs.verdicts.Picks.{cond_true, cond_false}
use Rattle.maps.proofs.geometry.longitude_between.Goals as goal

pub returns-then-long_path : goal.returns-then-long_path
unfolding dlong_of
returns-then-long_path c = c.turned.ensures ∙ ap turned_of c.folded-dlong.ensures ∙ sym (cond_true _ _ c.if-long_path.true)

pub returns-else-long_path : goal.returns-else-long_path
unfolding dlong_of
returns-else-long_path c = c.folded-dlong.ensures ∙ sym (cond_false _ _ c.if-long_path.false)
