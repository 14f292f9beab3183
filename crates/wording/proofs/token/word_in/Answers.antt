-- `word_in` is `word_named`, the search among the words.
use Rattle.std.proofs.Common.{sym, ◌∙◌, rules, tests}
use Rattle.std.specs.Str.{bytes_eq}
use Rattle.std.proofs.lemmas.Iterator.{YieldsList-from_slice}
use Rattle.std.proofs.lemmas.Iterator.Search.{find_from_yields_List}
use Rattle.wording.specs.Token.{ascii, name_of, words, word_named}
use Rattle.wording.proofs.words.Names.{no_letter, no_small}
use Rattle.wording.proofs.token.word_in.Goals as goal

pub returns-in_err-first : goal.returns-in_err-first
returns-in_err-first c = c.from_residual.ensures ∙ sym (no_letter c.args.letters.now c.in_err-first.ensures.value)

pub returns-then-branch-lt97 : goal.returns-then-branch-lt97
returns-then-branch-lt97 c = sym (no_small c.args.letters.now _ c.in_ok-first.ensures.value c.if-branch-lt97.true)

pub returns : goal.returns
unfolding word_named
returns c =
    c.copied.ensures
    ∙ find_from_yields_List (λ x. bytes_eq (ascii (name_of x)) c.args.letters.now) _ _ c.find.result c.find.ensures.ran
    (YieldsList-from_slice words cc) (λ x b q k. search (rules, tests))
