-- `noisy` picks the limits of the two series by the map; the two waves are those of `noisy_sum`.
use Rattle.std.proofs.Common.{sym}
use lib.Ieee.{round, of_bits}
use Rattle.base.specs.Single.{decimal}
use Rattle.maps.specs.Noisy.{noisy_sum, noisy_of}
use Rattle.base.proofs.verdicts.Picks.{cond_true, cond_false}
use Rattle.maps.proofs.ionosphere.noisy.noisy.Goals as goal

pub returns-then-ratio_map : goal.returns-then-ratio_map
unfolding noisy_of noisy_sum decimal round of_bits
returns-then-ratio_map c =
    let e = c.of-angle.ensures in
    let f = c.of-half.ensures in
    rw (c.noisy_sum.ensures, e.sine, e.cosine, f.sine, f.cosine) (sym (cond_true _ _ c.if-ratio_map.true))

pub returns-else-ratio_map : goal.returns-else-ratio_map
unfolding noisy_of noisy_sum decimal round of_bits
returns-else-ratio_map c =
    let e = c.of-angle.ensures in
    let f = c.of-half.ensures in
    rw (c.noisy_sum-else-ratio_map.ensures, e.sine, e.cosine, f.sine, f.cosine) (sym (cond_false _ _ c.if-ratio_map.false))
