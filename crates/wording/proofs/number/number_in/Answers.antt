-- `number_in` is `number_in`: a sign is passed over, and the rest read (`signed`).
use Rattle.std.proofs.Common.{◌≡◌, ◌-◌, ◌<◌, ◌≤◌, true, false, length, get_or, drop, sym, ap, ◌∙◌, arith, rules, length-drop, eq-eqb, ne_eqb}
use Rattle.std.proofs.lemmas.List.{take_all}
use lib.ListN.{get_or-eq_default}
use Rattle.base.proofs.verdicts.Picks.{cond_true, cond_false}
use Rattle.wording.specs.Number.{unsigned_in}
use Rattle.wording.proofs.decimals.Reading.{signed}
use Rattle.wording.proofs.number.number_in.Goals.{in_default-via-then-word-lt1, in_default-via-else-word-lt1+in_default-1}
use Rattle.wording.proofs.number.number_in.Goals as goal

pub returns-in-45 : goal.returns-in-45
returns-in-45 c =
    let word = c.args.word.now in
    let e : get_or word 0 0 ≡ 45 = omega arith in
    let all : length (drop 1 word) ≤ length word - 1 = omega (arith, length-drop 1 word) in
    c.unsigned_in.ensures
    ∙ ap (unsigned_in true) (take_all _ (drop 1 word) all)
    ∙ sym (signed word ∙ cond_true _ _ (eq-eqb _ _ e))

pub returns-in-43 : goal.returns-in-43
returns-in-43 c =
    let word = c.args.word.now in
    let e : get_or word 0 0 ≡ 43 = omega arith in
    let all : length (drop 1 word) ≤ length word - 1 = omega (arith, length-drop 1 word) in
    let n : get_or word 0 0 ≡ 45 → ⊥ = λ x. omega arith in
    c.unsigned_in-in-43.ensures
    ∙ ap (unsigned_in false) (take_all _ (drop 1 word) all)
    ∙ sym (signed word ∙ cond_false _ _ (ne_eqb _ _ n) ∙ cond_true _ _ (eq-eqb _ _ e))

pub returns-in_default : goal.returns-in_default
returns-in_default c =
    let word = c.args.word.now in
    let out : length word < 1 → get_or word 0 0 ≡ 0 = λ h. get_or-eq_default word 0 {n = 0} (omega arith) in
    let signs : (get_or word 0 0 ≡ 45 → ⊥) × (get_or word 0 0 ≡ 43 → ⊥) = elim c.in_default-1.branch [
      | in_default-via-then-word-lt1 w ↦ (λ x. omega (arith, out (search rules)), λ x. omega (arith, out (search rules)))
      | in_default-via-else-word-lt1+in_default-1 w ↦ (λ x. omega arith, λ x. omega arith)
    ] in
    c.unsigned_in-in_default.ensures
    ∙ sym (signed word ∙ cond_false _ _ (ne_eqb _ _ signs.0) ∙ cond_false _ _ (ne_eqb _ _ signs.1))
