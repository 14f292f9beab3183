-- `hour_waves` is `hour_waves`. The loop's invariant: each array is filled with the waves up to jb,
-- and the cosine and the sine are the wave jb.
use Rattle.std.proofs.Common.{◌≡◌, ℕ, ◌+◌, ◌<◌, ◌≤◌, List, length, set, sym, refl, ap, ◌∙◌, add-one, arith, rules, Float}
use lib.Ieee.{round, of_bits}
use Rattle.base.specs.declared.angle.Radians.{Radians}
use Rattle.base.specs.Single.{◌⊕◌, ◌⊖◌, ◌⊗◌, decimal}
use Rattle.base.specs.Fill.{fill}
use Rattle.base.proofs.lists.Fills.{fill_first, fill_all}
use Rattle.base.specs.Elementary.{sin32_of, cos32_of}
use Rattle.maps.specs.declared.ionosphere.virtim.Waves.{Waves}
use Rattle.maps.specs.Virtim.{time_of, wave_of, hour_wave, hour_waves}
use Rattle.maps.proofs.ionosphere.virtim.hour_waves.Invariants.{Made}
use Rattle.maps.proofs.ionosphere.virtim.hour_waves.Goals as goal

next :
    (c0 s0 : Float) (c₀ s₀ c s : List Float) (cosine sine : Float) (jb : ℕ) → Made c0 s0 c₀ s₀ c s cosine sine jb → jb < 8 →
    Made c0 s0 c₀ s₀ (set c jb cosine) (set s jb sine) (c0 ⊗ cosine ⊖ s0 ⊗ sine) (c0 ⊗ sine ⊕ s0 ⊗ cosine) (jb + 1)
unfolding wave_of
next c0 s0 c₀ s₀ c s cosine sine jb m h =
    record {
      turns = omega arith;
      cosines = rw (m.cosines, m.cos) (sym (fill_first _ _ _));
      sines = rw (m.sines, m.sin) (sym (fill_first _ _ _));
      cos = rw (m.cos, m.sin) (sym (ap (λ (i : ℕ). (wave_of c0 s0 i).c) (add-one jb)));
      sin = rw (m.cos, m.sin) (sym (ap (λ (i : ℕ). (wave_of c0 s0 i).s) (add-one jb)));
    }

done :
    (gmt c0 s0 : Float) (c₀ s₀ c s : List Float) (cosine sine : Float) (jb : ℕ) → length c₀ ≡ 8 → length s₀ ≡ 8 →
    Made c0 s0 c₀ s₀ c s cosine sine jb → 8 ≤ jb → c0 ≡ cos32_of (time_of gmt).0 → s0 ≡ sin32_of (time_of gmt).0 →
    ◌≡◌ {A = Waves} (record { c = c; s = s }) (hour_waves gmt)
unfolding hour_wave hour_waves
done gmt c0 s0 c₀ s₀ c s cosine sine jb l m made h p q =
    let e : jb ≡ 8 = omega arith in
    rw (made.cosines, made.sines, e, p, q) (λ i. record { c = fill_all (λ j. (hour_wave gmt j).c) c₀ 8 l i; s = fill_all (λ j. (hour_wave gmt j).s) s₀ 8 m i })

pub loop-jb-init : goal.loop-jb-init
unfolding fill wave_of
loop-jb-init c = record { turns = search rules; cosines = refl; sines = refl; cos = refl; sin = refl }

pub loop-jb-preserved : goal.loop-jb-preserved
loop-jb-preserved c = next _ _ _ _ _ _ _ _ _ c.loop-jb.invariant c.loop-jb-test.true

pub returns : goal.returns
unfolding time_of decimal round of_bits
returns c =
    let k = c in
    let t = k.to_radians-time.ensures in
    done k.args.gmt _ _ _ _ _ _ _ _ _ refl refl c.loop-jb.invariant c.loop-jb-test.false
    (k.cos32-c0.ensures ∙ ap (λ (a : Radians). cos32_of a.0) t)
    (k.sin32-s0.ensures ∙ ap (λ (a : Radians). sin32_of a.0) t)
