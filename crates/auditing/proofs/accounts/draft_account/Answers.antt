-- `draft_account` writes `draft_account`, by whether the call is an accepted begin.
use Rattle.std.proofs.Common.{ℕ, refl, sym, ap, ◌∙◌, arith}
use Rattle.base.proofs.verdicts.Picks.{cond_true, cond_false}
use Rattle.auditing.specs.Marks.{is_done}
use Rattle.auditing.specs.Accounts.{begun_line, draft_account}
use Rattle.auditing.proofs.accounts.draft_account.Goals as goal

pub returns-then-is_begin : goal.returns-then-is_begin
unfolding draft_account
returns-then-is_begin c =
    let a = c.args in
    let e = c.begun_line.ensures in
    let desk = ap (λ (n : ℕ). begun_line a.marks.now a.numbers.now a.count n a.p) c.desk_at.ensures in
    let begun = sym (ap (is_done 8) c.mark_at.ensures) ∙ sym c.is_begin.ensures ∙ c.if-is_begin.true in
    record { text = e.text ∙ desk ∙ sym (cond_true _ _ begun); count = e.count }

pub returns-else-is_begin : goal.returns-else-is_begin
unfolding draft_account
returns-else-is_begin c =
    let other = sym (ap (is_done 8) c.mark_at.ensures) ∙ sym c.is_begin.ensures ∙ c.if-is_begin.false in
    record { text = sym (cond_false _ _ other); count = (omega arith, refl) }
