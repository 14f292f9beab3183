-- Degrees as typed enter what is worked only as radians, through D2R, and through the test at 89.9
-- degrees: two routes whose radians and tests are equal have the same path, but for `rlatd`, which
-- is typed. By the ends, which are all that the rest of a path is made of. Assumes nothing.
use Rattle.std.proofs.Common.{◌≡◌, ap, ◌∙◌, Bool, cond, List}
use Rattle.base.specs.declared.angle.Degrees.{Degrees}
use Rattle.base.specs.declared.angle.Radians.{Radians}
use Rattle.maps.specs.declared.inputs.MagneticPole.{MagneticPole}
use Rattle.base.specs.Single.{◌⊗◌, decimal}
use Rattle.base.specs.Constants.{RZ}
use Rattle.base.specs.Angle.{radians_of}
use Rattle.maps.specs.declared.geometry.ControlPoint.{ControlPoint}
use Rattle.maps.specs.declared.geometry.Place.{Place}
use Rattle.maps.specs.Geometry.{nudged_of, place_of, end_longitude, end_of, circle_of, count_of, pole_place, rows_of, track_of, path_of}
use Rattle.results.specs.SamePaths.{near_pole, SameEnd, SamePole, SameWork}

end_same : (lat lon lat' lon' : Degrees) → SameEnd lat lon lat' lon' → end_of lat lon ≡ end_of lat' lon'
unfolding end_of end_longitude
end_same lat lon lat' lon' s =
    ap (λ (a : Radians). place_of a.0 (cond (near_pole lat) (decimal 0 1) (radians_of lon).0)) s.lat
    ∙ ap (λ (b : Bool). place_of (radians_of lat').0 (cond b (decimal 0 1) (radians_of lon).0)) s.polar
    ∙ ap (λ (a : Radians). place_of (radians_of lat').0 (cond (near_pole lat') (decimal 0 1) a.0)) s.lon

pole_same : (p q : MagneticPole) → SamePole p q → pole_place p ≡ pole_place q
unfolding pole_place
pole_same p q s =
    ap (λ (a : Radians). place_of a.0 (radians_of p.lon).0) s.lat
    ∙ ap (λ (a : Radians). place_of (radians_of q.lat).0 a.0) s.lon

abbrev points_from : Bool → Place → Place → Place → List ControlPoint
points_from long pole tx rx = let c = circle_of tx rx long in rows_of (track_of tx rx long) pole c.gcd (count_of (c.gcd ⊗ RZ))

-- what a function of both ends gives is the same
both : {A : Type 0} (f : Place → Place → A) {tx ty rx ry : Place} → tx ≡ ty → rx ≡ ry → f tx rx ≡ f ty ry
both f {ty} {rx} t r = ap (λ (p : Place). f p rx) t ∙ ap (λ (p : Place). f ty p) r

-- document 01: 'Degrees as typed and radians as worked meet only through D2R and R2D'
pub only_radians :
    (tlat tlong rlat rlong : Degrees) (tlat' tlong' rlat' rlong' : Degrees) (long : Bool) (p q : MagneticPole) →
    SameEnd tlat tlong tlat' tlong' →
    SameEnd (nudged_of tlat tlong rlat rlong) rlong (nudged_of tlat' tlong' rlat' rlong') rlong' →
    SamePole p q → SameWork (path_of tlat tlong rlat rlong long p) (path_of tlat' tlong' rlat' rlong' long q)
unfolding path_of
only_radians tlat tlong rlat rlong tlat' tlong' rlat' rlong' long p q t r s =
    let et = end_same _ _ _ _ t in
    let er = end_same _ _ _ _ r in
    record {
      gcd = both (λ (x y : Place). record { 0 = (circle_of x y long).gcd }) et er;
      gcd_km = both (λ (x y : Place). (circle_of x y long).gcd ⊗ RZ) et er;
      btr = both (λ (x y : Place). record { 0 = (circle_of x y long).btr }) et er;
      brt = both (λ (x y : Place). record { 0 = (circle_of x y long).brt }) et er;
      count = both (λ (x y : Place). count_of ((circle_of x y long).gcd ⊗ RZ)) et er;
      points =
          both (points_from long (pole_place p)) et er
          ∙ ap (λ (pole : Place). points_from long pole (end_of tlat' tlong') (end_of (nudged_of tlat' tlong' rlat' rlong') rlong')) (pole_same p q s);
    }
