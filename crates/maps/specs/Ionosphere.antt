-- The ionosphere over lent files: the maps at an hour, and `layer_parameters_at`. Assumes nothing.
use Rattle.std.specs.Prelude.{ℕ, List, [], ◌∷◌, Float}
use Rattle.base.specs.declared.angle.Radians.{Radians}
use Rattle.maps.specs.declared.inputs.MagneticPole.{MagneticPole}
use Rattle.base.specs.Refusal.{Verdict}
use Rattle.base.specs.Refusal.{◌then◌, written_over}
use Rattle.base.specs.Single.{decimal}
use Rattle.base.specs.Elementary.{cos32_of}
use Rattle.base.specs.Ranges.{month_check}
use Rattle.base.specs.Index.{index_of}
use Rattle.base.specs.Blend.{cofion_of, hmym_of}
use Rattle.base.specs.Files.{file_check}
use Rattle.maps.specs.declared.geometry.ControlPoint.{ControlPoint}
use Rattle.maps.specs.declared.magnetic.MagneticVars.{MagneticVars}
use Rattle.maps.specs.declared.ionosphere.LayerInputs.{LayerInputs}
use Rattle.maps.specs.declared.ionosphere.LayersAt.{LayersAt}
use Rattle.maps.specs.declared.ionosphere.versy.Gammas.{Gammas}
use Rattle.maps.specs.declared.ionosphere.layers.LayerParams.{LayerParams}
use Rattle.maps.specs.declared.ionosphere.layers.Monthly.{Monthly}
use Rattle.maps.specs.Magnetic.{east_of, magvar_of}
use Rattle.maps.specs.Geometry.{geomagnetic_of}
use Rattle.maps.specs.Virtim.{virtim_of}
use Rattle.maps.specs.Versy.{gammas_of}
use Rattle.maps.specs.Layers.{monthly_of, layers_of}

-- ---- the maps at an hour, AB

unfoldable pub hour_maps_of : List ℕ → List ℕ → Float → Float → List Float
hour_maps_of f2 file ssn gmt = virtim_of (cofion_of f2 file ssn) (index_of file) gmt

-- ---- the six maps at a point, at its east longitude and the cosine of its latitude

unfoldable pub gammas_at : List Float → List ℕ → Radians → Radians → MagneticVars → Gammas
gammas_at ab index lat lon mag = gammas_of ab index mag.gmdip.0 lat.0 (east_of lon).0 (cos32_of lat.0)

-- ---- `layer_parameters_at`: by the same steps as at a control point

-- 1 for a month that there is not, then 9, 10, 23, 11
unfoldable pub layers_check : ℕ → List ℕ → Verdict
layers_check month file = month_check month then file_check file

-- the distance is 0.0, which no step reads
unfoldable pub point_at : MagneticPole → Radians → Radians → ControlPoint
point_at pole lat lon =
    record { rd = record { 0 = decimal 0 1 }; lat = lat; lon = lon; gmlat = geomagnetic_of pole lat lon }

unfoldable pub layers_there :
    LayerInputs → Monthly → List Float → List ℕ → List Float → MagneticPole → Radians → Radians → LayerParams
layers_there i m ab index hmym pole lat lon =
    let mag = magvar_of lat lon in
    layers_of m i.ssn i.gmt i.psc hmym (point_at pole lat lon) mag (gammas_at ab index lat lon mag)

-- +0.0 in every field, beside a refusal
unfoldable pub no_layers : LayerParams
no_layers =
    let o = decimal 0 1 in
    record {
      fi = o ∷ o ∷ o ∷ [];
      yi = o ∷ o ∷ o ∷ [];
      hi = o ∷ o ∷ o ∷ [];
      f2m3 = o;
      hpf2 = o;
      rat = o;
      abiy = o;
      clck = o;
      zenang = record { 0 = o };
      zenmax = record { 0 = o };
    }

abbrev pub layers_if : Verdict → LayerParams → LayersAt
layers_if v l = record { verdict = v; params = written_over v l no_layers }

unfoldable pub layers_at_of : LayerInputs → List Float → List ℕ → MagneticPole → Radians → Radians → LayersAt
layers_at_of i ab file pole lat lon =
    layers_if (layers_check i.month file)
    (layers_there i (monthly_of file i.month i.ssn) ab (index_of file) (hmym_of file i.ssn) pole lat lon)
