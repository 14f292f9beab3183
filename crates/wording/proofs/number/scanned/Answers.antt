-- `scanned` is `scanned`: what is read and the bytes that are left make what the whole makes.
use Rattle.std.proofs.Common.{sym, ◌∙◌}
use Rattle.wording.proofs.decimals.Reading.{scanned_next, scanned_all}
use Rattle.wording.proofs.number.scanned.Goals as goal

pub returns-in_err-s : goal.returns-in_err-s
returns-in_err-s c =
    let l = c.loop-c in
    c.from_residual.ensures
    ∙ sym (l.invariant ∙ scanned_next l.s c.args.word.now l.c-index _ c.loop-c-test.true (sym (c.in_err-s.was) ∙ c.with_byte.ensures))

pub loop-c-preserved : goal.loop-c-preserved
loop-c-preserved c =
    let l = c.loop-c in
    l.invariant ∙ scanned_next l.s c.args.word.now l.c-index _ c.loop-c-test.true (sym (c.in_ok-s.was) ∙ c.with_byte.ensures)

pub returns : goal.returns
returns c =
    let l = c.loop-c in
    sym (l.invariant ∙ scanned_all l.s c.args.word.now l.c-index c.loop-c-test.false)
