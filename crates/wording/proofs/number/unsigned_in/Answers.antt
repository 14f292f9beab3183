-- `unsigned_in` is `unsigned_in`: what is read byte by byte is the number (`read`).
use Rattle.std.proofs.Common.{sym, ap, ◌∙◌, option_and_then}
use Rattle.wording.specs.Number.{number_of}
use Rattle.wording.proofs.decimals.Reading.{read}
use Rattle.wording.proofs.number.unsigned_in.Goals as goal

pub returns-in_err-s : goal.returns-in_err-s
returns-in_err-s c =
    let a = c.args in
    c.from_residual.ensures
    ∙ ap (option_and_then (number_of a.negative)) (sym c.in_err-s.was ∙ c.scanned.ensures)
    ∙ read a.negative a.word.now

pub returns : goal.returns
returns c =
    let a = c.args in
    c.then_some.ensures ∙ ap (option_and_then (number_of a.negative)) (sym c.in_ok-s.was ∙ c.scanned.ensures)
    ∙ read a.negative a.word.now
