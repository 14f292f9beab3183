-- `fill_in` answers the path's count and fills the buffer with `figures_to`, by what its calls
-- ensure: what the points share is worked out once.
use Rattle.std.proofs.Common.{refl, ap}
use Rattle.maps.specs.declared.geometry.PathGeometry.{PathGeometry}
use Rattle.maps.specs.Figures.{hour_from}
use Rattle.maps.proofs.figures.fill_in.Goals as goal

pub returns : goal.returns
unfolding hour_from
returns c =
    let m = c.new.ensures in record {
      answer = ap (λ (g : PathGeometry). g.count) c.path-g.ensures;
      buffer = rw (c.put_figures.ensures, c.path-g.ensures, c.monthly_of.ensures, m.coefficients, m.words, c.virtim-ab.ensures) refl;
    }
