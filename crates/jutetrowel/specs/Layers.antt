-- How the parts of `maps` cross: numbers in structs, the Rust's fields in their order, and what is
-- worked out beside them. Assumes nothing.
use Rattle.std.specs.Prelude.{ℕ, Float}
use Rattle.base.specs.Refusal.{verdict_report}
use Rattle.maps.specs.Geometry.{alatd_of, btr_deg, brt_deg}
use Rattle.maps.specs.declared.geometry.PathGeometry.{PathGeometry}
use Rattle.maps.specs.declared.ionosphere.LayerInputs.{LayerInputs}
use Rattle.maps.specs.declared.ionosphere.LayersAt.{LayersAt}
use Rattle.jutetrowel.specs.declared.layers.Measured.{Measured}
use Rattle.jutetrowel.specs.declared.layers.Layers.{Layers}
use Rattle.jutetrowel.specs.Fields.{factors_of}

unfoldable pub measured_of : PathGeometry → Measured
measured_of g =
    record {
      gcd = g.gcd.0;
      gcd_km = g.gcd_km;
      btr = g.btr.0;
      brt = g.brt.0;
      rlatd = g.rlatd.0;
      alatd = (alatd_of g).0;
      btr_deg = (btr_deg g).0;
      brt_deg = (brt_deg g).0;
      points = g.count;
    }

abbrev pub layer_inputs : ℕ → Float → Float → Float → Float → Float → Float → LayerInputs
layer_inputs month ssn gmt e f1 f2 es =
    record { month = month; ssn = ssn; gmt = gmt; psc = factors_of e f1 f2 es }

unfoldable pub layers_as : LayersAt → Layers
layers_as l =
    record {
      number = (verdict_report l.verdict).0;
      place = (verdict_report l.verdict).1;
      fi = l.params.fi;
      yi = l.params.yi;
      hi = l.params.hi;
      f2m3 = l.params.f2m3;
      hpf2 = l.params.hpf2;
      rat = l.params.rat;
      abiy = l.params.abiy;
      clck = l.params.clck;
      zenang = l.params.zenang.0;
      zenmax = l.params.zenmax.0;
    }
