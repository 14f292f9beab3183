-- `comment_at` finds what `uncommented` keeps: what stands before the first '#'.
use Rattle.std.proofs.Common.{ap, ◌∙◌, take, rules, tests}
use Rattle.std.proofs.lemmas.Iterator.{YieldsList-from_slice}
use Rattle.std.proofs.lemmas.Iterator.Search.{position_from_yields_List}
use Rattle.wording.proofs.words.Splits.{is_mark, comment_begins}
use Rattle.wording.proofs.token.comment_at.Goals as goal

pub returns-clause-before : goal.returns-clause-before
returns-clause-before c =
    let line = c.args.line.now in
    ap (λ n. take n line) c.unwrap_or.ensures
    ∙ comment_begins line c.position.result
    (position_from_yields_List is_mark _ _ c.position.result c.position.ensures.ran (YieldsList-from_slice line cc) (λ x b q k. search (rules, tests)))
