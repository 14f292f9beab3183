-- `sin_at` goes by the quarter as `sin_at` does.
use Rattle.std.proofs.Common.{◌≡◌, ℕ, zero, suc, sym, refl, ap, ◌∙◌, rules, Float}
use lib.Ieee.{neg}
use Rattle.base.specs.Elementary.{sin_at, cos_series}
use Rattle.base.proofs.elementary.sin_at.Goals as goal

rest : (q : ℕ) (a : Float) → (q ≡ 0 → ⊥) → (q ≡ 1 → ⊥) → (q ≡ 2 → ⊥) → neg (cos_series a) ≡ sin_at q a
unfolding sin_at
rest zero a x y z = absurd (x refl)
rest (suc zero) a x y z = absurd (y refl)
rest (suc (suc zero)) a x y z = absurd (z refl)
rest (suc (suc (suc q))) a x y z = refl

pub returns-in-0 : goal.returns-in-0
unfolding sin_at
returns-in-0 c = c.sin_series.ensures ∙ ap (λ (q : ℕ). sin_at q c.args.a) (sym c.in-0.is)

pub returns-in-1 : goal.returns-in-1
unfolding sin_at
returns-in-1 c = c.cos_series.ensures ∙ ap (λ (q : ℕ). sin_at q c.args.a) (sym c.in-1.is)

pub returns-in-2 : goal.returns-in-2
unfolding sin_at
returns-in-2 c = ap neg c.sin_series-in-2.ensures ∙ ap (λ (q : ℕ). sin_at q c.args.a) (sym c.in-2.is)

pub returns-in_default : goal.returns-in_default
returns-in_default c = ap neg c.cos_series-in_default.ensures ∙ rest c.args.q c.args.a (search rules) (search rules) (search rules)
