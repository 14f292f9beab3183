-- `part_check` is `part_check`, by its test and what its calls ensure.
use Rattle.std.proofs.Common.{lt-ltb, le-ltb, sym, ◌∙◌}
use Rattle.base.proofs.verdicts.Picks.{cond_true, cond_false}
use Rattle.packing.specs.Pack.{part_check}
use Rattle.packing.proofs.part_check.Goals as goal

pub returns-then-k-lt12 : goal.returns-then-k-lt12
unfolding part_check
returns-then-k-lt12 c = c.file_check.ensures ∙ sym (cond_true _ _ (lt-ltb _ 12 c.if-k-lt12.true))

pub returns-else-k-lt12 : goal.returns-else-k-lt12
unfolding part_check
returns-else-k-lt12 c = c.daw_check.ensures ∙ sym (cond_false _ _ (le-ltb _ 12 c.if-k-lt12.false))
