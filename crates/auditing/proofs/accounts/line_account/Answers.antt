-- `line_account` writes `line_account`: the bytes up to the line's end are the line, and past the text
-- it is empty.
use Rattle.std.proofs.Common.{List, refl, sym, ap, ◌∙◌, ℕ, ◌≤◌, arith, length, drop_of_length-le}
use Rattle.wording.specs.Token.{uncommented, words_from, first_tokens, tokens_of, token_at}
use Rattle.wording.specs.Line.{line_in}
use Rattle.listing.specs.Written.{line_text}
use Rattle.auditing.specs.Gathered.{first_line}
use Rattle.auditing.proofs.accounts.line_account.Goals as goal

pub returns-then-start-text : goal.returns-then-start-text
unfolding first_line line_in tokens_of token_at first_tokens words_from uncommented
returns-then-start-text c =
    let a = c.args in
    let h : length a.text.now ≤ a.start = omega arith in
    let past = drop_of_length-le a.text.now h in
    record { text = sym (ap (λ (l : List ℕ). line_text (line_in (first_line l))) past); count = (omega arith, refl) }

pub slice_bounds-line_in-end : goal.slice_bounds-line_in-end
slice_bounds-line_in-end c = c.line_end-end.ensures.within c.if-start-text.false

pub returns : goal.returns
returns c =
    let e = c.line_text.ensures in
    let line = c.line_in.ensures ∙ ap line_in c.line_end-end.ensures.line in
    record { text = e.text ∙ ap line_text line; count = e.count }
