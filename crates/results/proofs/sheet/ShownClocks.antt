-- Document 01, Figures: the clock of every point that a showing shows 'is above 0 and at most 24',
-- at its place in the buffer. By what the 15 fields' check leaves of the hour and the route.
-- Assumes nothing.
use Rattle.std.proofs.Common.{Err, Ok, ℕ, ◌+◌, ◌*◌, ◌-◌, ◌≤◌, true, List, ◌≡◌, refl, sym, subst, arith, T, length, get_or, Float}
use lib.Ieee.{nan, round, le}
use Rattle.base.specs.declared.angle.Degrees.{Degrees}
use Rattle.base.specs.declared.refusal.Refusal.TheVariants.{Hour as BadHour, Latitude, Longitude}
use Rattle.base.specs.Refusal.{Verdict}
use Rattle.base.specs.Refusal.{◌then◌, written_over}
use Rattle.base.specs.Single.{decimal, minus_decimal}
use Rattle.base.specs.Ranges.{is_to, month_check, hour_check, latitude_check, longitude_check, model_check}
use Rattle.base.proofs.order.Order.{Between}
use Rattle.maps.specs.declared.inputs.Inputs.{Inputs}
use Rattle.maps.specs.declared.inputs.Route.{Route}
use Rattle.maps.specs.Figures.{sheet_path, figures_of, points_or}
use Rattle.results.proofs.clock.Clock.{Hour, OnClock}
use Rattle.results.proofs.path.Longitudes.{Typed}
use Rattle.results.proofs.sheet.FigurePlaces.{clock_at}
use Rattle.worksheet.specs.declared.desks.Worksheet.{Worksheet}
use Rattle.worksheet.specs.Inputs.{sunspot_check, flag_check, route_check, factors_check, pole_check, inputs_check}
use Rattle.worksheet.specs.Showing.{Source, inputs_shown, asked_check, drawn_check, judged_check, show_check, show_of, show_buffer}
use Rattle.base.proofs.verdicts.Refusals.{then_both, passed}
use Rattle.worksheet.proofs.drafts.Effects.{both_true}

-- ---- what the checks accept

between : (low high x : Float) → is_to low high x ≡ true → Between low high x
between low high x h =
    let b = both_true (le low x) (le x high) h in
    record { low = subst T (sym b.0) tt; high = subst T (sym b.1) tt }

hour_in : (x : Float) → hour_check x ≡ Ok tt → Hour x
unfolding hour_check decimal round
hour_in x h = between (decimal 0 1) (decimal 24 0) x (passed (is_to (decimal 0 1) (decimal 24 0) x) BadHour h)

end_in : (m n : ℕ) (lat lon : Degrees) → latitude_check m lat ≡ Ok tt → longitude_check n lon ≡ Ok tt → Typed lat lon
unfolding latitude_check longitude_check decimal minus_decimal round
end_in m n lat lon h k = record {
  latitude = between (minus_decimal 90 0) (decimal 90 0) lat.0 (passed (is_to (minus_decimal 90 0) (decimal 90 0) lat.0) (Latitude m) h);
  longitude = between (minus_decimal 180 0) (decimal 180 0) lon.0 (passed (is_to (minus_decimal 180 0) (decimal 180 0) lon.0) (Longitude n) k);
}

-- an accepted route has both ends in range
ends_in : (r : Route) → route_check r ≡ Ok tt → Typed r.tlat r.tlong × Typed r.rlat r.rlong
unfolding route_check
ends_in r h =
    let a = then_both (latitude_check 4 r.tlat) (longitude_check 5 r.tlong then latitude_check 6 r.rlat then longitude_check 7 r.rlong then flag_check r.long_path) h in
    let b = then_both (longitude_check 5 r.tlong) (latitude_check 6 r.rlat then longitude_check 7 r.rlong then flag_check r.long_path) a.1 in
    let c = then_both (latitude_check 6 r.rlat) (longitude_check 7 r.rlong then flag_check r.long_path) b.1 in
    let d = then_both (longitude_check 7 r.rlong) (flag_check r.long_path) c.1 in
    (end_in 4 5 r.tlat r.tlong a.0 b.0, end_in 6 7 r.rlat r.rlong c.0 d.0)

-- inputs that are accepted have the hour and both ends in range
pub in_range_law : (i : Inputs) → inputs_check i ≡ Ok tt
    → Hour i.gmt × Typed i.route.tlat i.route.tlong × Typed i.route.rlat i.route.rlong
unfolding inputs_check
in_range_law i h =
    let rest = factors_check i.psc then pole_check i.pole then model_check i.model in
    let a = then_both (month_check i.month) (sunspot_check i.ssn then hour_check i.gmt then route_check i.route then rest) h in
    let b = then_both (sunspot_check i.ssn) (hour_check i.gmt then route_check i.route then rest) a.1 in
    let c = then_both (hour_check i.gmt) (route_check i.route then rest) b.1 in
    let d = then_both (route_check i.route) rest c.1 in
    let e = ends_in i.route d.0 in
    (hour_in i.gmt c.0, e.0, e.1)

-- the clock of point p among the figures of inputs in range
pub clock_in_range : (f2 file : List ℕ) (i : Inputs) → inputs_check i ≡ Ok tt
    → (p : ℕ) → 1 ≤ p → p ≤ (sheet_path i).count → OnClock (get_or (figures_of f2 file i) (6 + 29 * (p - 1) + 20) nan)
clock_in_range f2 file i h p l c = let r = in_range_law i h in clock_at f2 file i r.0 r.1 r.2 p l c

-- and in the buffer after every accepted showing, of the worksheet or of a desk
pub shown_clock : (source : Source) (n : ℕ) (lent : List Float) (w : Worksheet) (count : ℕ) → show_of source n lent w ≡ Ok count
    → (p : ℕ) → 1 ≤ p → p ≤ count → OnClock (get_or (show_buffer source n lent w) (6 + 29 * (p - 1) + 20) nan)
unfolding show_of show_buffer show_check judged_check
shown_clock source n lent w count h p l c = go (show_check source n (length lent) w) refl h
  where
    i : Inputs
    i = inputs_shown n w

    go : (v : Verdict) → show_check source n (length lent) w ≡ v → points_or v (sheet_path i).count ≡ Ok count
        → OnClock (get_or (written_over v (figures_of (source i).f2 (source i).file i) lent) (6 + 29 * (p - 1) + 20) nan)
    go (Ok _) e q =
        let a = then_both (judged_check n w) (drawn_check (source i) (length lent)) e in
        let b = then_both (asked_check n w) (inputs_check i) a.0 in
        let same : (sheet_path i).count ≡ count = cc in
        clock_in_range (source i).f2 (source i).file i b.1 p l (omega arith)
    go (Err why) e q = let z : ◌≡◌ {A = ℕ} 0 1 = cc in absurd (omega arith)
