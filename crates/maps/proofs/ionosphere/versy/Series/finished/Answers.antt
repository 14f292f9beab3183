-- `finished` is `gamma_of`. The loop's invariant: gamma is the sum of the terms before k, before it is
-- narrowed.
use Rattle.std.proofs.Common.{◌≡◌, ◌-◌, sym, ap, ◌∙◌, arith}
use Rattle.base.specs.Number.{narrow_of}
use Rattle.maps.specs.Versy.{elements, sum_of}
use Rattle.maps.proofs.sums.MapSeries.{gamma_narrowed}
use Rattle.maps.proofs.ionosphere.versy.Series.finished.Goals as goal

pub returns : goal.returns
returns c =
    let s = c.args.self in
    let l = c.loop-k in
    let e : l.k - 1 ≡ s.last = omega arith in
    c.narrow.ensures
    ∙ ap narrow_of (l.invariant ∙ ap (sum_of s.ab.now s.start (elements s.g.now)) e)
    ∙ sym (gamma_narrowed s.ab.now s.start (elements s.g.now) s.last)
