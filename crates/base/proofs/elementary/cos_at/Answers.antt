-- `cos_at` goes by the quarter as `cos_at` does.
use Rattle.std.proofs.Common.{◌≡◌, ℕ, zero, suc, sym, refl, ap, ◌∙◌, rules, Float}
use lib.Ieee.{neg}
use Rattle.base.specs.Elementary.{cos_at, sin_series}
use Rattle.base.proofs.elementary.cos_at.Goals as goal

rest : (q : ℕ) (a : Float) → (q ≡ 0 → ⊥) → (q ≡ 1 → ⊥) → (q ≡ 2 → ⊥) → sin_series a ≡ cos_at q a
unfolding cos_at
rest zero a x y z = absurd (x refl)
rest (suc zero) a x y z = absurd (y refl)
rest (suc (suc zero)) a x y z = absurd (z refl)
rest (suc (suc (suc q))) a x y z = refl

pub returns-in-0 : goal.returns-in-0
unfolding cos_at
returns-in-0 c = c.cos_series.ensures ∙ ap (λ (q : ℕ). cos_at q c.args.a) (sym c.in-0.is)

pub returns-in-1 : goal.returns-in-1
unfolding cos_at
returns-in-1 c = ap neg c.sin_series.ensures ∙ ap (λ (q : ℕ). cos_at q c.args.a) (sym c.in-1.is)

pub returns-in-2 : goal.returns-in-2
unfolding cos_at
returns-in-2 c = ap neg c.cos_series-in-2.ensures ∙ ap (λ (q : ℕ). cos_at q c.args.a) (sym c.in-2.is)

pub returns-in_default : goal.returns-in_default
returns-in_default c = c.sin_series-in_default.ensures ∙ rest c.args.q c.args.a (search rules) (search rules) (search rules)
