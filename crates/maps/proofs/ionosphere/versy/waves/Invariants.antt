-- `waves` is `waves_of`. The loop's invariant: the waves of the harmonics before j + 1 are filled in,
-- and cx and t are those of the harmonic j + 1.
use Rattle.std.proofs.Common.{◌≡◌, ℕ, ◌+◌, ◌*◌, List, Float}
use Rattle.base.specs.Fill.{fill}
use Rattle.maps.specs.Versy.{cx_of, t_of, wave_at}
use Rattle.maps.proofs.ionosphere.versy.waves.Given as goal

pub record Made (gob clg wide : Float) (out₀ out : List Float) (cx t : Float) (j : ℕ) : Type 0 where
  pub widened : wide ≡ gob
  pub power : cx ≡ cx_of gob (j + 1)
  pub angle : t ≡ t_of clg (j + 1)
  pub filled : out ≡ fill (wave_at gob clg) 0 out₀ (2 * j)

abbrev pub invariant-loop-j : goal.invariant-loop-j
invariant-loop-j l = Made l.gob l.clg l.wide l.initial.out l.out l.cx l.t l.j
