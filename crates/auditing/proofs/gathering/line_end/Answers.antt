-- `line_end` finds the line's end, by where the first newline stands in what is left of the text.
use Rattle.std.proofs.Common.{ℕ, ap, ◌+◌, ◌∙◌, arith}
use Rattle.auditing.proofs.journals.Lines.{line_past, line_length, line_found}
use Rattle.auditing.proofs.gathering.line_end.Goals as goal

pub returns-then-from-text : goal.returns-then-from-text
returns-then-from-text c =
    let a = c.args in
    let n = line_past a.text.now a.from (omega arith) in
    line_found a.text.now a.from a.from (omega arith)

pub returns : goal.returns
returns c =
    let a = c.args in
    let n = c.unwrap_or.ensures ∙ line_length a.text.now a.from c.newline_in.ensures in
    line_found a.text.now a.from _ (ap (λ (i : ℕ). a.from + i) n)
