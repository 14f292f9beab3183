-- `push_kept` gives the buffer what the shorter list has for a call, by whether it is a commit.
use Rattle.std.proofs.Common.{sym, ◌∙◌}
use Rattle.auditing.specs.Marks.{pile}
use Rattle.auditing.proofs.places.Piles.{kept_commit, kept_other}
use Rattle.auditing.proofs.marks.push_kept.Goals as goal

pub returns-then-is_done : goal.returns-then-is_done
returns-then-is_done c =
    let a = c.args in
    kept_commit _ a.j _ (pile a.size a.out.now) c.mark_at-mark.ensures
    (sym c.is_done.ensures ∙ c.if-is_done.true)
    c.push_own-n.ensures
    c.push.ensures

pub returns : goal.returns
returns c =
    let a = c.args in
    kept_other _ a.j _ (pile a.size a.out.now) c.mark_at-mark.ensures
    (sym c.is_done.ensures ∙ c.if-is_done.false)
    c.is_alone.ensures
    c.push_if.ensures
