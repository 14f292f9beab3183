-- `token_in` is `token_of`: a name, else a number, else neither.
use Rattle.std.proofs.Common.{ap, ◌∙◌, sym}
use Rattle.wording.specs.Token.{token_of, name_or, number_or}
use Rattle.wording.proofs.token.token_in.Goals as goal

pub returns-in-Some : goal.returns-in-Some
unfolding token_of
returns-in-Some c = ap (λ o. name_or o c.args.word.now) (sym c.in-Some.is ∙ c.word_in.ensures)

pub returns-in-Some-number_in : goal.returns-in-Some-number_in
unfolding token_of
returns-in-Some-number_in c =
    ap number_or (sym c.in-Some-number_in.is ∙ c.number_in.ensures)
    ∙ ap (λ o. name_or o c.args.word.now) (sym c.in_default.is ∙ c.word_in.ensures)

pub returns-in-None : goal.returns-in-None
unfolding token_of
returns-in-None c =
    ap number_or (sym c.in-None.is ∙ c.number_in.ensures)
    ∙ ap (λ o. name_or o c.args.word.now) (sym c.in_default.is ∙ c.word_in.ensures)
