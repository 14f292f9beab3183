-- `rung` fills in `rung_of`. The loop's invariant: the places before k are filled, an even number of
-- them, and the cosine and the sine are the next two.
use Rattle.std.proofs.Common.{◌≡◌, ℕ, suc, ◌+◌, ◌-◌, ◌/◌, ◌%◌, ◌<◌, ◌≤◌, List, set, sym, ap, ◌∙◌, arith, eq-eqb, ne_eqb, Float}
use Rattle.base.specs.Double.{◌⊗◌}
use Rattle.base.specs.Fill.{fill}
use Rattle.base.proofs.verdicts.Picks.{cond_true, cond_false}
use Rattle.maps.specs.Versy.{raised, rung_of}
use Rattle.maps.proofs.sums.GeographicFunctions.{fill_then}
use Rattle.maps.proofs.ionosphere.versy.rung.Invariants.{Made}
use Rattle.maps.proofs.ionosphere.versy.rung.Goals as goal

module _ (sx c s : Float) (n : ℕ) (e : n % 2 ≡ 0) where
  first : rung_of sx c s n ≡ raised sx (n / 2) c
  unfolding rung_of
  first = ap (raised sx (n / 2)) (cond_true c s (eq-eqb (n % 2) 0 e))

  second : rung_of sx c s (n + 1) ≡ raised sx (n / 2) s
  unfolding rung_of
  second =
      let h : (n + 1) / 2 ≡ n / 2 = omega arith in
      ap (raised sx ((n + 1) / 2)) (cond_false c s (ne_eqb ((n + 1) % 2) 0 (λ q. omega arith))) ∙ ap (λ (i : ℕ). raised sx i s) h

raised_next : (sx x : Float) (n m : ℕ) → m ≡ suc n → sx ⊗ raised sx n x ≡ raised sx m x
unfolding raised
raised_next sx x n m e = ap (λ (i : ℕ). raised sx i x) (sym e)

again :
    (sx c s : Float) (below end : ℕ) (g₀ g : List Float) (cosine sine : Float) (k : ℕ) →
    Made sx c s below end g₀ g cosine sine k → k < end →
    Made sx c s below end g₀ (set (set g k cosine) (k + 1) sine) (sx ⊗ cosine) (sx ⊗ sine) (k + 2)
again sx c s below end g₀ g cosine sine k v h =
    let n = k - below - 1 in
    let l = v.low in
    let e = v.even in
    let d : below + 1 + n ≡ k = omega arith in
    let f : below + 1 + (n + 1) ≡ k + 1 = omega arith in
    let m : n + 1 + 1 ≡ k + 2 - below - 1 = omega arith in
    let p : (k + 2 - below - 1) / 2 ≡ suc (n / 2) = omega arith in
    record {
      low = omega arith;
      high = omega arith;
      even = omega arith;
      cos = ap (λ (x : Float). sx ⊗ x) v.cos ∙ raised_next sx c (n / 2) ((k + 2 - below - 1) / 2) p;
      sin = ap (λ (x : Float). sx ⊗ x) v.sin ∙ raised_next sx s (n / 2) ((k + 2 - below - 1) / 2) p;
      is =
          fill_then (rung_of sx c s) (below + 1) g₀ (n + 1) (k + 1)
          (fill_then (rung_of sx c s) (below + 1) g₀ n k v.is d (v.cos ∙ sym (first sx c s n e)))
          f (v.sin ∙ sym (second sx c s n e))
          ∙ ap (fill (rung_of sx c s) (below + 1) g₀) m;
    }

starts : (sx c s : Float) (below end : ℕ) (g : List Float) → below + 2 ≤ end → Made sx c s below end g g c s (below + 1)
unfolding raised fill
starts sx c s below end g h =
    let e : 0 ≡ below + 1 - below - 1 = omega arith in
    let d : 0 ≡ (below + 1 - below - 1) / 2 = omega arith in
    record {
      low = omega arith;
      high = omega arith;
      even = omega arith;
      cos = ap (λ (i : ℕ). raised sx i c) d;
      sin = ap (λ (i : ℕ). raised sx i s) d;
      is = ap (fill (rung_of sx c s) (below + 1) g) e;
    }

pub loop-k-init : goal.loop-k-init
loop-k-init c = starts _ _ _ _ _ _ c.requires.0

pub loop-k-preserved : goal.loop-k-preserved
loop-k-preserved c = again _ _ _ _ _ _ _ _ _ _ c.loop-k.invariant c.loop-k-test.true

pub returns : goal.returns
returns c =
    let k = c.loop-k in
    let e : k.k - c.args.below - 1 ≡ c.args.end - c.args.below = omega arith in
    rw e at k.invariant.is
