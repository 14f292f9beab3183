-- `hour_waves` is `hour_waves`. The loop's invariant: each array is filled with the waves up to jb,
-- and the cosine and the sine are the wave jb.
use Rattle.std.proofs.Common.{◌≡◌, ℕ, ◌≤◌, List, Float}
use Rattle.base.specs.Fill.{fill}
use Rattle.maps.specs.Virtim.{wave_of}
use Rattle.maps.proofs.ionosphere.virtim.hour_waves.Given as goal

pub record Made (c0 s0 : Float) (c₀ s₀ c s : List Float) (cosine sine : Float) (jb : ℕ) : Type 0 where
  pub turns : jb ≤ 8
  pub cosines : c ≡ fill (λ i. (wave_of c0 s0 i).c) 0 c₀ jb
  pub sines : s ≡ fill (λ i. (wave_of c0 s0 i).s) 0 s₀ jb
  pub cos : cosine ≡ (wave_of c0 s0 jb).c
  pub sin : sine ≡ (wave_of c0 s0 jb).s

abbrev pub invariant-loop-jb : goal.invariant-loop-jb
invariant-loop-jb l = Made l.c0 l.s0 l.initial.c l.initial.s l.c l.s l.cosine l.sine l.jb
