-- `year_check` is `year_check`, by the loop's invariant that what is left of the check is the whole.
use Rattle.std.proofs.Common.{sym, ◌∙◌}
use Rattle.base.proofs.layout.Directories.{first, next, broken, done}
use Rattle.base.proofs.year.year_check.Goals as goal

pub loop-k-init : goal.loop-k-init
loop-k-init c = first _

pub returns-then-not-keeps_rules : goal.returns-then-not-keeps_rules
returns-then-not-keeps_rules c =
    let l = c.loop-k in
    broken _ _ l.invariant c.loop-k-test.true (sym c.keeps_rules.ensures ∙ c.if-not-keeps_rules.true)

pub loop-k-preserved : goal.loop-k-preserved
loop-k-preserved c =
    let l = c.loop-k in
    next _ _ l.invariant c.loop-k-test.true (sym c.keeps_rules.ensures ∙ c.if-not-keeps_rules.false)

pub returns : goal.returns
returns c = done _ _ c.loop-k.invariant c.loop-k-test.false
