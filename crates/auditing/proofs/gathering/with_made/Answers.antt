-- `with_made` is `with_call`, field by field and buffer by buffer.
use Rattle.auditing.proofs.journals.Turns.{called_as}
use Rattle.auditing.proofs.gathering.with_made.Goals as goal

pub returns : goal.returns
returns c =
    let a = c.args in
    called_as _ a.c a.n a.s a.g a.marks.now a.numbers.now a.starts.now
    c.made-m.ensures.sheet c.made-m.ensures.mark
    c.put_at.ensures c.put_at-2.ensures c.put_at-3.ensures
