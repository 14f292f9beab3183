-- sin and cos of an interval whose numbers are n quarter turns from zero, by the steps of document
-- 01 in `Spans`. Assumes nothing.
use Rattle.std.proofs.Common.{◌≡◌, sym, ap, ◌∙◌, subst, ℕ, zero, suc, ◌^◌, T, Float}
use lib.Ieee.{binary64, le}
use lib.Ieee.Bits.{is_true}
use Rattle.base.specs.Double.{◌⊗◌, fraction}
use Rattle.base.specs.Number.{abs_of}
use Rattle.base.specs.Elementary.{quarter_of, turns_of, reduced_of, half_pi, sin_terms, cos_terms, sin_series, cos_series, sin_at, cos_at, sin_of, cos_of, sin32_of, cos32_of}
use Rattle.base.proofs.verdicts.Picks.{cond_true}
use Rattle.results.proofs.numbers.Spans.{Span, In, point, minus, times, negated, narrowed, horner_in, point_in, minus_in, times_in, negated_in, narrowed_in, horner_held}

unfoldable pub reduced_in : Span → Float → Span
unfolding minus point
reduced_in i n = minus binary64 (minus binary64 i (point (n ⊗ half_pi))) (point (n ⊗ fraction 6123233995736766 (10 ^ 32)))

unfoldable pub sin_series_in : Span → Span
unfolding times horner_in
sin_series_in i = times binary64 i (horner_in sin_terms (times binary64 i i))

unfoldable pub cos_series_in : Span → Span
unfolding times horner_in
cos_series_in i = horner_in cos_terms (times binary64 i i)

unfoldable pub sin_at_in : ℕ → Span → Span
unfolding negated sin_series_in cos_series_in
sin_at_in zero i = sin_series_in i
sin_at_in (suc zero) i = cos_series_in i
sin_at_in (suc (suc zero)) i = negated (sin_series_in i)
sin_at_in (suc (suc (suc q))) i = negated (cos_series_in i)

unfoldable pub cos_at_in : ℕ → Span → Span
unfolding negated sin_series_in cos_series_in
cos_at_in zero i = cos_series_in i
cos_at_in (suc zero) i = negated (sin_series_in i)
cos_at_in (suc (suc zero)) i = negated (cos_series_in i)
cos_at_in (suc (suc (suc q))) i = sin_series_in i

reduced_held : (i : Span) (n : Float) {v : Float} → In i v → In (reduced_in i n) (reduced_of v n)
unfolding reduced_in reduced_of
reduced_held i n h = minus_in binary64 (minus binary64 i (point (n ⊗ half_pi))) (point (n ⊗ fraction 6123233995736766 (10 ^ 32))) (minus_in binary64 i (point (n ⊗ half_pi)) h (point_in (n ⊗ half_pi))) (point_in (n ⊗ fraction 6123233995736766 (10 ^ 32)))

sin_series_held : (i : Span) {x : Float} → In i x → In (sin_series_in i) (sin_series x)
unfolding sin_series_in sin_series
sin_series_held i h = times_in binary64 i (horner_in sin_terms (times binary64 i i)) h (horner_held sin_terms (times binary64 i i) (times_in binary64 i i h h))

cos_series_held : (i : Span) {x : Float} → In i x → In (cos_series_in i) (cos_series x)
unfolding cos_series_in cos_series
cos_series_held i h = horner_held cos_terms (times binary64 i i) (times_in binary64 i i h h)

sin_at_held : (q : ℕ) (i : Span) {x : Float} → In i x → In (sin_at_in q i) (sin_at q x)
unfolding sin_at_in sin_at
sin_at_held zero i h = sin_series_held i h
sin_at_held (suc zero) i h = cos_series_held i h
sin_at_held (suc (suc zero)) i h = negated_in (sin_series_in i) (sin_series_held i h)
sin_at_held (suc (suc (suc q))) i h = negated_in (cos_series_in i) (cos_series_held i h)

cos_at_held : (q : ℕ) (i : Span) {x : Float} → In i x → In (cos_at_in q i) (cos_at q x)
unfolding cos_at_in cos_at
cos_at_held zero i h = cos_series_held i h
cos_at_held (suc zero) i h = negated_in (sin_series_in i) (sin_series_held i h)
cos_at_held (suc (suc zero)) i h = negated_in (cos_series_in i) (cos_series_held i h)
cos_at_held (suc (suc (suc q))) i h = sin_series_held i h

-- ---- an f32's, where n is its number of quarter turns
unfoldable pub sin32_in : Float → Span → Span
unfolding narrowed sin_at_in reduced_in
sin32_in n i = narrowed (sin_at_in (quarter_of n) (reduced_in i n))

unfoldable pub cos32_in : Float → Span → Span
unfolding narrowed cos_at_in reduced_in
cos32_in n i = narrowed (cos_at_in (quarter_of n) (reduced_in i n))

module _ (n : Float) (i : Span) (v : Float) (l : T (le (abs_of v) (fraction 1000 1))) (e : turns_of v ≡ n) (h : In i v) where
  sin_is : sin_of v ≡ sin_at (quarter_of n) (reduced_of v n)
  unfolding sin_of
  sin_is = cond_true _ _ (is_true (le (abs_of v) (fraction 1000 1)) l) ∙ ap (λ (m : Float). sin_at (quarter_of m) (reduced_of v m)) e

  cos_is : cos_of v ≡ cos_at (quarter_of n) (reduced_of v n)
  unfolding cos_of
  cos_is = cond_true _ _ (is_true (le (abs_of v) (fraction 1000 1)) l) ∙ ap (λ (m : Float). cos_at (quarter_of m) (reduced_of v m)) e

  pub sin32_held : In (sin32_in n i) (sin32_of v)
  unfolding sin32_in sin32_of
  sin32_held = narrowed_in (sin_at_in (quarter_of n) (reduced_in i n)) (subst (In (sin_at_in (quarter_of n) (reduced_in i n))) (sym sin_is) (sin_at_held (quarter_of n) (reduced_in i n) (reduced_held i n h)))

  pub cos32_held : In (cos32_in n i) (cos32_of v)
  unfolding cos32_in cos32_of
  cos32_held = narrowed_in (cos_at_in (quarter_of n) (reduced_in i n)) (subst (In (cos_at_in (quarter_of n) (reduced_in i n))) (sym cos_is) (cos_at_held (quarter_of n) (reduced_in i n) (reduced_held i n h)))
