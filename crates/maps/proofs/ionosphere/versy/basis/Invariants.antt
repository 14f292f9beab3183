-- `basis` fills the array along the ladder. The loop's invariant: what is left to fill from here
-- gives what `filled_of` gives, and what is left of the ladder climbs.
use Rattle.std.proofs.Common.{◌≡◌, ℕ, ◌-◌, ◌≤◌, List, Float}
use Rattle.base.specs.Index.{map_word, Climbs}
use Rattle.maps.specs.Versy.{waves_of, filled_from, filled_of}
use Rattle.maps.proofs.ionosphere.versy.basis.Given as goal

-- before the word j + 1
pub record Left (w : ℕ → ℕ) (sx : Float) (waves g : List Float) (below j : ℕ) : Type 0 where
  pub turns : j ≤ 8
  pub word : below ≡ w j
  pub most : w j ≤ 75
  pub climbs : Climbs w (8 - j) j
  pub rest : (gob clg : Float) → waves ≡ waves_of gob clg → filled_from w sx gob clg (8 - j) j g ≡ filled_of w sx gob clg

abbrev pub invariant-loop-j : goal.invariant-loop-j
invariant-loop-j l = Left (map_word l.index.words.now l.k) l.sx l.waves l.g l.below l.j
