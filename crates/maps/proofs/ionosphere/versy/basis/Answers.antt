-- `basis` fills the array along the ladder. The loop's invariant: what is left to fill from here
-- gives what `filled_of` gives, and what is left of the ladder climbs.
use Rattle.std.proofs.Common.{◌≡◌, ℕ, suc, ◌+◌, ◌-◌, ◌*◌, ◌%◌, ◌<◌, ◌≤◌, List, get_or, sym, ap, ◌∙◌, subst, ⊎_elim, arith, eq-eqb, ne_eqb, Float}
use lib.Ieee.{nan}
use Rattle.base.specs.Fill.{fill, tabulate}
use Rattle.base.specs.Index.{map_word, Climbs}
use Rattle.base.proofs.lists.Fills.{run_at}
use Rattle.base.proofs.ladder.Indexing.{climbs_cases}
use Rattle.base.proofs.verdicts.Picks.{cond_true, cond_false}
use Rattle.maps.specs.Versy.{sx_power, cos_wave, sin_wave, wave_at, waves_of, rung_of, harmonic_of, geographic_of, zeros, filled_from, filled_of}
use Rattle.maps.proofs.sums.GeographicFunctions.{even_wave, odd_wave, rung_harmonic, filled_closed}
use Rattle.maps.proofs.ionosphere.versy.basis.Invariants.{Left}
use Rattle.maps.proofs.ionosphere.versy.basis.Goals as goal

-- the next word, where it is no level
pub record Rising (w : ℕ → ℕ) (j : ℕ) : Type 0 where
  pub above : w j + 2 ≤ w (j + 1)
  pub even : (w (j + 1) - w j) % 2 ≡ 0
  pub within : w (j + 1) ≤ 75
  pub further : Climbs w (8 - (j + 1)) (j + 1)

module _ (w : ℕ → ℕ) (sx : Float) (waves : List Float) where
  fuel : (j : ℕ) → j < 8 → 8 - j ≡ suc (8 - (j + 1))
  fuel j h = omega arith

  rising : (g : List Float) (below j : ℕ) → Left w sx waves g below j → j < 8 → (w (j + 1) ≡ w j → ⊥) → Rising w j
  rising g below j l h ne =
      ⊎_elim (λ q. absurd (ne q)) (λ t. record { above = t.0; even = t.1; within = t.2; further = t.3 })
      (climbs_cases (subst (λ (n : ℕ). Climbs w n j) (fuel j h) l.climbs))

  begun : (g g₁ : List Float) (below : ℕ) → below ≡ w 0 → w 0 ≤ 75 → Climbs w 8 0 → g ≡ zeros → g₁ ≡ fill (sx_power sx) 0 g (below + 1) →
      Left w sx waves g₁ below 0
  unfolding filled_of
  begun g g₁ below e h c z p =
      record {
        turns = omega arith;
        word = e;
        most = h;
        climbs = c;
        rest = λ gob clg q. ap (filled_from w sx gob clg 8 0) (p ∙ (λ t. fill (sx_power sx) 0 (z t) (e t + 1)));
      }

  -- the two waves of the harmonic j + 1
  cosine : (gob clg : Float) (j : ℕ) → waves ≡ waves_of gob clg → j < 8 → get_or waves (2 * j) nan ≡ cos_wave gob clg (j + 1)
  unfolding waves_of
  cosine gob clg j q h = ap (λ (l : List Float). get_or l (2 * j) nan) q ∙ run_at (wave_at gob clg) 16 (2 * j) nan (omega arith) ∙ even_wave gob clg (2 * j) (j + 1) (omega arith)

  sine : (gob clg : Float) (j : ℕ) → waves ≡ waves_of gob clg → j < 8 → get_or waves (2 * j + 1) nan ≡ sin_wave gob clg (j + 1)
  unfolding waves_of
  sine gob clg j q h = ap (λ (l : List Float). get_or l (2 * j + 1) nan) q ∙ run_at (wave_at gob clg) 16 (2 * j + 1) nan (omega arith) ∙ odd_wave gob clg (2 * j) (j + 1) (omega arith)

  stepped : (gob clg : Float) (g : List Float) (j : ℕ) → j < 8 → (w (j + 1) ≡ w j → ⊥) →
      filled_from w sx gob clg (8 - j) j g ≡ filled_from w sx gob clg (8 - (j + 1)) (j + 1) (fill (harmonic_of sx gob clg (j + 1)) (w j + 1) g (w (j + 1) - w j))
  unfolding filled_from
  stepped gob clg g j h ne = ap (λ (n : ℕ). filled_from w sx gob clg n j g) (fuel j h) ∙ cond_false _ _ (ne_eqb (w (j + 1)) (w j) ne)

  again : (g g₁ : List Float) (below end j : ℕ) → Left w sx waves g below j → j < 8 → end ≡ w (j + 1) → (end ≡ below → ⊥) →
      g₁ ≡ fill (rung_of sx (get_or waves (2 * j) nan) (get_or waves (2 * j + 1) nan)) (below + 1) g (end - below) → Left w sx waves g₁ end (j + 1)
  again g g₁ below end j l h e ne p =
      let b = l.word in
      let ne' : w (j + 1) ≡ w j → ⊥ = λ q. ne (e ∙ q ∙ sym b) in
      let r = rising g below j l h ne' in
      record {
        turns = omega arith;
        word = e;
        most = r.within;
        climbs = r.further;
        rest = λ gob clg q.
            let f = rung_harmonic sx gob clg (j + 1) (cosine gob clg j q h) (sine gob clg j q h) in
            ap (filled_from w sx gob clg (8 - (j + 1)) (j + 1)) (p ∙ (λ t. fill (f t) (b t + 1) g (e t - b t)))
            ∙ sym (stepped gob clg g j h ne')
            ∙ l.rest gob clg q;
      }

  -- the ladder ends with word 8, or at a level
  ended : (g : List Float) (below j : ℕ) → Left w sx waves g below j → 8 ≤ j → w 0 ≤ 75 → Climbs w 8 0 →
      (gob clg : Float) → waves ≡ waves_of gob clg → g ≡ tabulate (geographic_of w sx gob clg) 76
  unfolding filled_from
  ended g below j l h top c gob clg q =
      let e : 0 ≡ 8 - j = (let t = l.turns in omega arith) in
      ap (λ (n : ℕ). filled_from w sx gob clg n j g) e ∙ l.rest gob clg q ∙ filled_closed w sx gob clg top c

  levelled : (g : List Float) (below j : ℕ) → Left w sx waves g below j → j < 8 → w (j + 1) ≡ w j → w 0 ≤ 75 → Climbs w 8 0 →
      (gob clg : Float) → waves ≡ waves_of gob clg → g ≡ tabulate (geographic_of w sx gob clg) 76
  unfolding filled_from
  levelled g below j l h e top c gob clg q =
      sym (ap (λ (n : ℕ). filled_from w sx gob clg n j g) (fuel j h) ∙ cond_true _ _ (eq-eqb (w (j + 1)) (w j) e))
      ∙ l.rest gob clg q ∙ filled_closed w sx gob clg top c

pub powers-requires : goal.powers-requires
powers-requires c =
    let a = c.args in
    let pre = c.requires in
    let good = a.index.good a.k pre.0 in
    let e = c.word-below.ensures in
    let l = good.low in
    let h = good.high in
    (omega arith, omega arith)

pub loop-j-init : goal.loop-j-init
loop-j-init c =
    let b = c in
    let a = b.args in
    let pre = b.requires in
    let good = a.index.good a.k pre.0 in
    begun (map_word a.index.words.now a.k) a.sx a.waves.now _ _ _ b.word-below.ensures good.high good.climbing pre.1 c.powers.ensures

pub rung-requires : goal.rung-requires
rung-requires c =
    let b = c in
    let l = b.loop-j in
    let a = b.args in
    let w = map_word a.index.words.now a.k in
    let e = b.word-end.ensures in
    let d = l.invariant.word in
    let r = rising w a.sx a.waves.now l.g l.below l.j l.invariant b.loop-j-test.true (λ q. c.if-end-below.false (e ∙ q ∙ sym d)) in
    (omega arith, omega arith, rw (e, d) r.even)

pub loop-j-preserved : goal.loop-j-preserved
loop-j-preserved c =
    let b = c in
    let l = b.loop-j in
    let a = b.args in
    again (map_word a.index.words.now a.k) a.sx a.waves.now _ _ _ _ _ l.invariant b.loop-j-test.true b.word-end.ensures c.if-end-below.false c.rung.ensures

pub returns-after-loop-j : goal.returns-after-loop-j
returns-after-loop-j c =
    let a = c.args in
    let pre = c.requires in
    let good = a.index.good a.k pre.0 in
    ended (map_word a.index.words.now a.k) a.sx a.waves.now _ _ _ c.loop-j.invariant c.loop-j-test.false good.high good.climbing

pub returns-then-end-below : goal.returns-then-end-below
returns-then-end-below c =
    let b = c in
    let a = b.args in
    let pre = b.requires in
    let good = a.index.good a.k pre.0 in
    levelled (map_word a.index.words.now a.k) a.sx a.waves.now _ _ _ b.loop-j.invariant c.loop-j-test.true
    (sym c.word-end.ensures ∙ c.if-end-below.true ∙ b.loop-j.invariant.word) good.high good.climbing
