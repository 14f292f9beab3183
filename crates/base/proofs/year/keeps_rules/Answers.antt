-- `keeps_rules` is `keeps_rules`: each return by the tests before it.
use Rattle.std.proofs.Common.{ℕ, leb, length, sym, ap, ◌∙◌, arith, lt-ltb, leb-true, leb-false}
use borrow.Author.Tests.{lt-leb}
use Rattle.base.proofs.layout.Directories.{rule_cut, rule_early, rule_kept, rule_last}
use Rattle.base.proofs.verdicts.Picks.{never}
use Rattle.base.proofs.year.keeps_rules.Goals.{then-k-year, else-k-year}
use Rattle.base.proofs.year.keeps_rules.Goals as goal

pub returns-then-k : goal.returns-then-k
returns-then-k c =
    elim c.if-k-year.branch [
      | then-k-year w ↦ (let h = leb-true _ _ (sym w.value-is ∙ c.if-floor-offset.true) in lt-ltb _ _ c.if-k.true ∙ rule_kept _ _ w.if-k-year.true (omega (arith, w.offset.ensures.answer, w.floor.ensures)) c.if-k.true)
      | else-k-year w ↦ never (sym (lt-leb _ _ w.if-k-year.false) ∙ sym w.value-is ∙ c.if-floor-offset.true)
    ]

pub returns-else-k : goal.returns-else-k
returns-else-k c =
    elim c.if-k-year.branch [
      | then-k-year w ↦ (let h = leb-true _ _ (sym w.value-is ∙ c.if-floor-offset.true) in ap (λ (e : ℕ). leb e (length c.args.year.now)) c.end.ensures ∙ rule_last _ _ w.if-k-year.true (omega (arith, w.offset.ensures.answer, w.floor.ensures)) c.if-k.false)
      | else-k-year w ↦ never (sym (lt-leb _ _ w.if-k-year.false) ∙ sym w.value-is ∙ c.if-floor-offset.true)
    ]

pub returns-else-floor-offset : goal.returns-else-floor-offset
returns-else-floor-offset c =
    elim c.if-k-year.branch [
      | then-k-year w ↦ (let h = leb-false _ _ (sym w.value-is ∙ c.if-floor-offset.false) in c.if-floor-offset.false ∙ rule_early _ _ w.if-k-year.true (omega (arith, w.offset.ensures.answer, w.floor.ensures)))
      | else-k-year w ↦ w.value-is ∙ lt-leb _ _ w.if-k-year.false ∙ rule_cut _ _ w.if-k-year.false
    ]
