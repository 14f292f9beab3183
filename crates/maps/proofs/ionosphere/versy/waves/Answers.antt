-- `waves` is `waves_of`. The loop's invariant: the waves of the harmonics before j + 1 are filled in,
-- and cx and t are those of the harmonic j + 1.
use Rattle.std.proofs.Common.{◌≡◌, ℕ, suc, ◌+◌, ◌*◌, List, set, replicate, pos, sym, refl, ap, ◌∙◌, add-one, arith, ne_eqb, Float}
use lib.ListN.{length-replicate}
use lib.Ieee.{binary32, binary64, of_int, mul, of_bits}
use Rattle.base.specs.Double.{◌⊗◌}
use Rattle.base.specs.Elementary.{sin_of, cos_of}
use Rattle.base.specs.Fill.{fill}
use Rattle.base.proofs.lists.Fills.{fill_first, fill_all}
use Rattle.base.proofs.verdicts.Picks.{cond_false}
use Rattle.maps.specs.Versy.{cx_of, t_of, cos_wave, sin_wave, wave_at, waves_of}
use Rattle.maps.proofs.sums.GeographicFunctions.{even_wave, odd_wave}
use Rattle.maps.proofs.ionosphere.versy.waves.Invariants.{Made}
use Rattle.maps.proofs.ionosphere.versy.waves.Goals as goal

-- the next power, and the next angle
cx_next : (gob : Float) (j : ℕ) → cx_of gob (j + 1 + 1) ≡ cx_of gob (j + 1) ⊗ gob
unfolding cx_of
cx_next gob j = ap (λ (i : ℕ). cx_of gob (i + 1)) (add-one j) ∙ ap (cx_of gob) (add-one (suc j)) ∙ ap (λ (i : ℕ). cx_of gob i ⊗ gob) (sym (add-one j))

t_next : (clg : Float) (j : ℕ) → t_of clg (j + 1 + 1) ≡ mul binary32 (of_int binary32 (pos (j + 2))) clg
unfolding t_of
t_next clg j =
    let e : j + 1 + 1 ≡ j + 2 = omega arith in
    ap (t_of clg) e ∙ cond_false _ _ (ne_eqb (j + 2) 1 (λ q. omega arith))

two_more : (f : ℕ → Float) (l : List Float) (i : ℕ) → set (set (fill f 0 l i) i (f i)) (i + 1) (f (i + 1)) ≡ fill f 0 l (i + 2)
two_more f l i =
    let e : i + 1 + 1 ≡ i + 2 = omega arith in
    ap (λ (x : List Float). set x (i + 1) (f (i + 1))) (sym (fill_first f l i)) ∙ sym (fill_first f l (i + 1)) ∙ ap (fill f 0 l) e

made_cos : (gob clg : Float) (j : ℕ) {cx t c : Float} → cx ≡ cx_of gob j → t ≡ t_of clg j → c ≡ cos_of t → cx ⊗ c ≡ cos_wave gob clg j
unfolding cos_wave
made_cos gob clg j {cx} {t} {c} p a e = ap (λ (x : Float). x ⊗ c) p ∙ ap (λ (x : Float). cx_of gob j ⊗ x) (e ∙ ap cos_of a)

made_sin : (gob clg : Float) (j : ℕ) {cx t s : Float} → cx ≡ cx_of gob j → t ≡ t_of clg j → s ≡ sin_of t → cx ⊗ s ≡ sin_wave gob clg j
unfolding sin_wave
made_sin gob clg j {cx} {t} {s} p a e = ap (λ (x : Float). x ⊗ s) p ∙ ap (λ (x : Float). cx_of gob j ⊗ x) (e ∙ ap sin_of a)

next :
    (gob clg wide : Float) (out₀ out : List Float) (cx t : Float) (j : ℕ) {c s n : Float} → Made gob clg wide out₀ out cx t j →
    c ≡ cos_of t → s ≡ sin_of t → n ≡ mul binary32 (of_int binary32 (pos (j + 2))) clg →
    Made gob clg wide out₀ (set (set out (2 * j) (cx ⊗ c)) (2 * j + 1) (cx ⊗ s)) (cx ⊗ wide) n (j + 1)
next gob clg wide out₀ out cx t j {c} {s} {n} m ec es en =
    let f = wave_at gob clg in
    let i = 2 * j in
    let at : 2 * j + 2 ≡ 2 * (j + 1) = omega arith in
    let p = made_cos gob clg (j + 1) m.power m.angle ec ∙ sym (even_wave gob clg i (j + 1) at) in
    let q = made_sin gob clg (j + 1) m.power m.angle es ∙ sym (odd_wave gob clg i (j + 1) at) in
    record {
      widened = m.widened;
      power = rw (m.power, m.widened) (sym (cx_next gob j));
      angle = en ∙ sym (t_next clg j);
      filled =
          ap (λ (x : List Float). set (set x i (cx ⊗ c)) (i + 1) (cx ⊗ s)) m.filled
          ∙ ap (λ (v : Float). set (set (fill f 0 out₀ i) i v) (i + 1) (cx ⊗ s)) p
          ∙ ap (λ (v : Float). set (set (fill f 0 out₀ i) i (f i)) (i + 1) v) q
          ∙ two_more f out₀ i
          ∙ ap (fill f 0 out₀) at;
    }

pub loop-j-init : goal.loop-j-init
unfolding fill cx_of t_of
loop-j-init c =
    record { widened = c.widen-wide.ensures; power = c.widen-wide.ensures; angle = c.widen-t.ensures; filled = refl }

pub loop-j-preserved : goal.loop-j-preserved
loop-j-preserved c =
    next _ _ _ _ _ _ _ _ c.loop-j.invariant c.cos64.ensures c.sin64.ensures
    (c.widen-t-in-loop-j.ensures ∙ ap (λ (x : Float). mul binary32 x c.args.clg) c.nearest_u32_to_f32.ensures)

pub returns : goal.returns
unfolding waves_of
returns c =
    let l = c.loop-j in
    let a = c.args in
    let e : 2 * l.j ≡ 16 = omega arith in
    l.invariant.filled ∙ ap (fill (wave_at a.gob a.clg) 0 (replicate 16 (of_bits binary64 0))) e
    ∙ fill_all (wave_at a.gob a.clg) (replicate 16 (of_bits binary64 0)) 16 (length-replicate {A = Float} 16 (of_bits binary64 0))
