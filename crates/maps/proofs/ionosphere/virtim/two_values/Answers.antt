-- `two_values` gives two `value_of`. The loop's invariant: each value is that of the first ka
-- harmonics.
use Rattle.std.proofs.Common.{◌≡◌, ℕ, ◌+◌, ◌*◌, List, get_or, sym, refl, ap, add-one, arith, rules, Float}
use lib.Ieee.{nan}
use Rattle.base.specs.Single.{◌⊕◌, ◌⊗◌}
use Rattle.maps.specs.Virtim.{wave_in, value_of}
use Rattle.maps.proofs.ionosphere.virtim.two_values.Goals as goal

-- one more harmonic, at the code's ka + 1
value_next :
    (c s cof : List Float) (at ka : ℕ) →
    value_of (wave_in c s) cof at (ka + 1)
    ≡
    value_of (wave_in c s) cof at ka ⊕ get_or s ka nan ⊗ get_or cof (at + 2 * ka + 1) nan ⊕ get_or c ka nan ⊗ get_or cof (at + 2 * ka + 2) nan
unfolding wave_in value_of
value_next c s cof at ka = ap (value_of (wave_in c s) cof at) (add-one ka)

pub loop-ka-init : goal.loop-ka-init
unfolding value_of
loop-ka-init c = (search rules, refl, refl)

pub loop-ka-preserved : goal.loop-ka-preserved
loop-ka-preserved c =
    let k = c.loop-ka in
    (search rules, rw k.invariant.1 (sym (value_next _ _ _ _ _)), rw k.invariant.2 (sym (value_next _ _ _ _ _)))

pub returns : goal.returns
returns c =
    let k = c.loop-ka in
    let e : k.ka ≡ c.args.n = omega arith in
    record { first = rw e at k.invariant.1; second = rw e at k.invariant.2 }
