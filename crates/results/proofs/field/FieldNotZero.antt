-- The field 300 km up vanishes nowhere: bv or bn is 1/64 at least in size. The sines of the
-- latitudes are cut into 19 bands and the longitudes into 16 sectors, and in each of the 304 boxes
-- the interval of bv or that of bn (`FieldBoxes`), as computed, stays clear of zero. Assumes
-- nothing.
use Rattle.std.proofs.Common.{◌≡◌, ◌⊎◌, inl, inr, Bool, true, false, not, ◌&&◌, ◌||◌, List, [], ◌∷◌, ℕ, zero, suc, ◌*◌, ◌≤◌, arith, T, pos, negsuc, get_or, Float}
use lib.Ieee.{fin, binary32, round, neg, add, sub, mul, div, le, is_nan, of_int, to_unsigned}
use lib.Ieee.Fits.{and_l, and_r}
use lib.Ieee.Scale.{finite}
use Rattle.base.specs.Single.{◌⊕◌, ◌⊖◌, ◌⊗◌, ◌⊘◌, decimal, minus_decimal}
use Rattle.base.specs.Double.{fraction}
use Rattle.base.specs.Number.{negative, abs_of, narrow_of, sqrt_of, root, root_in, closest_root, rounded}
use Rattle.base.specs.Elementary.{near_of, quarter_of, turns_of, half_pi, factorial, up_from, alternating, sin_terms, cos_terms}
use Rattle.base.specs.declared.angle.Radians.{Radians}
use Rattle.base.proofs.order.Order.{nought, Between, wider, trans_le, le_right, total_le, no_nan_finite, between_finite, le→abs}
use Rattle.results.proofs.numbers.Spans.{span, In, made, point, plus, minus, times, negated, rooted, narrowed, lesser, greater, hull, horner_in}
use Rattle.results.proofs.numbers.SineSpans.{reduced_in, sin_series_in, cos_series_in, sin_at_in, cos_at_in, sin32_in, cos32_in, sin32_held, cos32_held}
use Rattle.maps.specs.Loop.{loop, times as turnsFrom}
use Rattle.maps.specs.Magnetic.{o, HC, CT, G, H, aor_of, p_of, dp_of, ts_of, bv_of, bn_of}
use Rattle.results.proofs.field.Sines.{Away, Turn, turns, full, turns_whole, right_of, left_of}
use Rattle.results.proofs.field.Strips.{Strip, strip, On, grid, kept, sum_sign, sum_size, cut_down, cut_up, plus_strip, neg_strip, minus_strip, corners, larger, about_zero, times_strip, size_down, size_up, around, to_strip, to_span, clear_of, to_on, clear_of_law}
use Rattle.results.proofs.field.FieldBoxes.{
  Table,
  row,
  p_first,
  p_second,
  p_next,
  p_in,
  d_first,
  d_second,
  d_next,
  dp_in,
  s_in,
  ts_at,
  ts_row,
  ts_in,
  dot,
  dot_row,
  dots,
  sum_in,
  bv_weights,
  bn_weights,
  bv_in,
  bn_in,
  p_held,
  dp_held,
  s_held,
  ts_held,
  dots_held,
  bv_held,
  bn_held,
}

-- 1/64
abbrev pub little : Float
little = fin false 1 (negsuc 5)

-- the same, as a number of the grid
abbrev bit : ℕ
bit = 4096

bit_is : (x : Float) → Away (grid false bit) x → Away little x
unfolding le
bit_is x h = trans_le little (grid false bit) (abs_of x) tt h

-- the ratio of the radii 300 km up
abbrev pub up300 : Float
up300 = HC ⊘ (HC ⊕ decimal 3000000 1)

-- the cosine of the latitude, from its sine
abbrev pub rest : Float → Float
rest c = sqrt_of binary32 (decimal 10 1 ⊖ c ⊗ c)

abbrev Grid : Type 0
Grid = List (List Strip)

-- ---- sectors of longitudes that are n quarter turns from zero: between two cuts that follow each
-- other
record Cuts : Type 0 where
  from : Float
  next : Float
  later : List Float

module _ (g h : Grid) where
  unfoldable sector : ℕ → Float → Float → Grid
  unfolding ts_in to_strip sin32_in cos32_in
  sector n a b = ts_in g h (to_strip (cos32_in (turns n) (span a b))) (to_strip (sin32_in (turns n) (span a b)))

  unfoldable sectors : ℕ → Float → Float → List Float → List Grid
  unfolding sector
  sectors n a b [] = sector n a b ∷ []
  sectors n a b (c ∷ l) = sector n a b ∷ sectors n b c l

  -- for n, n + 1, ..
  unfoldable circle : ℕ → List Cuts → List (List Grid)
  unfolding sectors
  circle n [] = []
  circle n (x ∷ l) = sectors n x.from x.next x.later ∷ circle (suc n) l

-- with n quarter turns a longitude is at least .. and at most ..
abbrev lowest : ℕ → Float
lowest zero = nought
lowest (suc zero) = fin false 49 (negsuc 5)
lowest (suc (suc zero)) = fin false 75 (negsuc 4)
lowest (suc (suc (suc zero))) = fin false 251 (negsuc 5)
lowest (suc (suc (suc (suc n)))) = fin false 351 (negsuc 5)

abbrev highest : ℕ → Float
highest zero = fin false 51 (negsuc 5)
highest (suc zero) = fin false 19 (negsuc 2)
highest (suc (suc zero)) = fin false 63 (negsuc 3)
highest (suc (suc (suc zero))) = fin false 11 (negsuc 0)
highest (suc (suc (suc (suc n)))) = full

abbrev none : Cuts
none = record { from = nought; next = nought; later = [] }

-- sixteen sectors
abbrev sixteen : List Cuts
sixteen =
    record { from = lowest 0; next = fin false 7 (negsuc 3); later = highest 0 ∷ [] }
    ∷ record { from = lowest 1; next = fin false 9 (negsuc 2); later = fin false 201 (negsuc 6) ∷ fin false 129 (negsuc 5) ∷ highest 1 ∷ [] }
    ∷ record { from = lowest 2; next = fin false 173 (negsuc 5); later = fin false 201 (negsuc 5) ∷ fin false 229 (negsuc 5) ∷ highest 2 ∷ [] }
    ∷ record { from = lowest 3; next = fin false 273 (negsuc 5); later = fin false 603 (negsuc 6) ∷ fin false 165 (negsuc 4) ∷ highest 3 ∷ [] }
    ∷ record { from = lowest 4; next = fin false 187 (negsuc 4); later = highest 4 ∷ [] }
    ∷ []

-- ---- the computation: of bv and bn the one that is expected to be clear of zero is computed first
module _ (ct : Grid) (v w : List Strip) where
  unfoldable box_clear : Bool → Grid → Grid → Grid → Bool
  unfolding clear_of bv_in bn_in
  box_clear true p d t = clear_of bit (bv_in v p t) || clear_of bit (bn_in w d t)
  box_clear false p d t = clear_of bit (bn_in w d t) || clear_of bit (bv_in v p t)

  unfoldable boxes_clear : Bool → Grid → Grid → List Grid → Bool
  unfolding box_clear
  boxes_clear b p d [] = true
  boxes_clear b p d (t ∷ l) = box_clear b p d t && boxes_clear b p d l

  unfoldable round_clear : Bool → Grid → Grid → List (List Grid) → Bool
  unfolding boxes_clear
  round_clear b p d [] = true
  round_clear b p d (l ∷ ls) = boxes_clear b p d l && round_clear b p d ls

  unfoldable band_clear : Bool → List (List Grid) → Strip → Bool
  unfolding round_clear s_in p_in dp_in
  band_clear b ls C =
      let S : Strip = s_in C in
      let p : Grid = p_in ct C S in
      let d : Grid = dp_in ct C S p in
      round_clear b p d ls

-- a band of sines of latitudes: up to m / 16, or -m / 16, with bv first or bn
record Band : Type 0 where
  below : Bool
  m : ℕ
  radial : Bool

-- m / 16 in numbers of the grid
abbrev in_grid : ℕ → ℕ
in_grid m = m * 16384

abbrev end : Band → Float
end x = grid x.below (in_grid x.m)

module _ (ct : Grid) (v w : List Strip) (ls : List (List Grid)) where
  unfoldable bands_clear : Bool → ℕ → Band → List Band → Bool
  unfolding band_clear
  bands_clear s a x [] = band_clear ct v w x.radial ls (strip s a x.below (in_grid x.m))
  bands_clear s a x (y ∷ l) = band_clear ct v w x.radial ls (strip s a x.below (in_grid x.m)) && bands_clear x.below (in_grid x.m) y l

-- from -1 on
unfoldable field_clear : Band → List Band → Bool
unfolding circle bands_clear bv_weights bn_weights dots
field_clear x l =
    let v : List Strip = bv_weights up300 in
    let w : List Strip = bn_weights up300 in
    let ct : Grid = dots CT in
    let g : Grid = dots G in
    let h : Grid = dots H in
    let ls : List (List Grid) = circle g h 0 sixteen in
    bands_clear ct v w ls true (in_grid 16) x l

-- ---- what it shows
or_cases : (a b : Bool) → T (a || b) → T a ⊎ T b
or_cases true b t = inl tt
or_cases false b t = inr t

abbrev last : Float → List Float → Float
last b [] = b
last b (c ∷ l) = last c l

abbrev all_finite : List Float → Bool
all_finite [] = true
all_finite (x ∷ l) = finite x && all_finite l

abbrev last_end : Band → List Band → Float
last_end x [] = end x
last_end x (y ∷ l) = last_end y l

held : {a b x : Float} → T (finite a) → T (finite b) → T (le a x) → T (le x b) → In (span a b) x
held p q h k = record { is = record { from = p; to = q; between = record { low = h; high = k } } }

module _ (c : Float) (phi : Radians) (turned : Between nought full phi.0) where
  abbrev lon : Float
  lon = phi.0

  abbrev Clear : Type 0
  Clear = Away little (bv_of c (rest c) phi up300) ⊎ Away little (bn_of c (rest c) phi up300)

  lon_number : T (not (is_nan lon))
  lon_number = no_nan_finite lon (between_finite tt tt turned)

  turn : Turn lon
  unfolding le
  turn = wider (fin true 7 (pos 0)) (fin false 7 (pos 0)) tt tt turned

  in_range_law : T (le (abs_of lon) (fraction 1000 1))
  unfolding fraction round neg le
  in_range_law = le→abs lon (fraction 1000 1) (trans_le (neg (fraction 1000 1)) nought lon tt turned.low) (trans_le lon full (fraction 1000 1) turned.high tt)

  -- where n quarter turns are
  abbrev Ends : Float → Float → Type 0
  Ends a b = Between a b lon

  ends : (n : ℕ) → n ≤ 4 → turns_of lon ≡ turns n → Ends (lowest n) (highest n)
  unfolding turns_of near_of fraction round mul neg add sub le
  ends zero h e = record { low = turned.low; high = left_of lon turn e (highest 0) tt }
  ends (suc zero) h e = record { low = right_of lon turn e (lowest 1) tt; high = left_of lon turn e (highest 1) tt }
  ends (suc (suc zero)) h e = record { low = right_of lon turn e (lowest 2) tt; high = left_of lon turn e (highest 2) tt }
  ends (suc (suc (suc zero))) h e = record { low = right_of lon turn e (lowest 3) tt; high = left_of lon turn e (highest 3) tt }
  ends (suc (suc (suc (suc zero)))) h e = record { low = right_of lon turn e (lowest 4) tt; high = turned.high }
  ends (suc (suc (suc (suc (suc n))))) h e = absurd (omega arith)

  sector_held : (n : ℕ) (a b : Float) → turns_of lon ≡ turns n → In (span a b) lon → Table (sector (dots G) (dots H) n a b) (ts_of phi)
  unfolding sector
  sector_held n a b e h = ts_held (dots G) (dots H) (dots_held G) (dots_held H) phi (to_on (cos32_in (turns n) (span a b)) (cos32_held (turns n) (span a b) lon in_range_law e h)) (to_on (sin32_in (turns n) (span a b)) (sin32_held (turns n) (span a b) lon in_range_law e h))

  module _ (p d : Grid) (hp : Table p (p_of c (rest c))) (hd : Table d (dp_of c (rest c))) where
    abbrev vs : List Strip
    vs = bv_weights up300

    abbrev ws : List Strip
    ws = bn_weights up300

    by_bv : (t : Grid) → Table t (ts_of phi) → T (clear_of bit (bv_in vs p t)) → Clear
    by_bv t h k = inl (bit_is _ (clear_of_law bit (bv_in vs p t) k (bv_held c (rest c) phi up300 t h p hp)))

    by_bn : (t : Grid) → Table t (ts_of phi) → T (clear_of bit (bn_in ws d t)) → Clear
    by_bn t h k = inr (bit_is _ (clear_of_law bit (bn_in ws d t) k (bn_held c (rest c) phi up300 t h d hd)))

    box_clear_law : (b : Bool) (t : Grid) → Table t (ts_of phi) → T (box_clear (dots CT) vs ws b p d t) → Clear
    unfolding box_clear
    box_clear_law true t h k = elim (or_cases (clear_of bit (bv_in vs p t)) (clear_of bit (bn_in ws d t)) k) [ inl u ↦ by_bv t h u | inr u ↦ by_bn t h u ]
    box_clear_law false t h k = elim (or_cases (clear_of bit (bn_in ws d t)) (clear_of bit (bv_in vs p t)) k) [ inl u ↦ by_bn t h u | inr u ↦ by_bv t h u ]

    sectors_clear : (f : Bool) (n : ℕ) (a b : Float) (l : List Float) → turns_of lon ≡ turns n → T (all_finite (a ∷ b ∷ l)) → T (le a lon) → T (le lon (last b l)) → T (boxes_clear (dots CT) vs ws f p d (sectors (dots G) (dots H) n a b l)) → Clear
    unfolding boxes_clear sectors
    sectors_clear f n a b [] e q h k t =
        box_clear_law f (sector (dots G) (dots H) n a b) (sector_held n a b e (held (and_l (finite a) (finite b && true) q) (and_l (finite b) true (and_r (finite a) (finite b && true) q)) h k)) (and_l (box_clear (dots CT) vs ws f p d (sector (dots G) (dots H) n a b)) true t)
    sectors_clear f n a b (c' ∷ l) e q h k t =
        let A = and_l (finite a) (all_finite (b ∷ c' ∷ l)) q in
        let q' = and_r (finite a) (all_finite (b ∷ c' ∷ l)) q in
        let B = and_l (finite b) (all_finite (c' ∷ l)) q' in
        let r = boxes_clear (dots CT) vs ws f p d (sectors (dots G) (dots H) n b c' l) in
        elim (total_le lon b lon_number (no_nan_finite b B)) [
          | inl u ↦ box_clear_law f (sector (dots G) (dots H) n a b) (sector_held n a b e (held A B h u)) (and_l (box_clear (dots CT) vs ws f p d (sector (dots G) (dots H) n a b)) r t)
          | inr u ↦ sectors_clear f n b c' l e q' u k (and_r (box_clear (dots CT) vs ws f p d (sector (dots G) (dots H) n a b)) r t)
        ]

    round_at : (f : Bool) (ls : List (List Grid)) → T (round_clear (dots CT) vs ws f p d ls) → (n : ℕ) → T (boxes_clear (dots CT) vs ws f p d (get_or ls n []))
    unfolding round_clear boxes_clear
    round_at f [] t n = tt
    round_at f (l ∷ ls) t zero = and_l (boxes_clear (dots CT) vs ws f p d l) (round_clear (dots CT) vs ws f p d ls) t
    round_at f (l ∷ ls) t (suc n) = round_at f ls (and_r (boxes_clear (dots CT) vs ws f p d l) (round_clear (dots CT) vs ws f p d ls) t) n

    go_clear : (n : ℕ) (x : Cuts) (f : Bool) → turns_of lon ≡ turns n → T (all_finite (x.from ∷ x.next ∷ x.later)) → Ends x.from (last x.next x.later) → T (boxes_clear (dots CT) vs ws f p d (sectors (dots G) (dots H) n x.from x.next x.later)) → Clear
    go_clear n x f e q h t = sectors_clear f n x.from x.next x.later e q h.low h.high t

    round_clear_law : (f : Bool) → T (round_clear (dots CT) vs ws f p d (circle (dots G) (dots H) 0 sixteen)) → Clear
    unfolding circle
    round_clear_law f t = let w = turns_whole lon turned in go w.count w.most w.is
      where
        go : (n : ℕ) → n ≤ 4 → turns_of lon ≡ turns n → Clear
        go zero h e = go_clear 0 (get_or sixteen 0 none) f e tt (ends 0 h e) (round_at f (circle (dots G) (dots H) 0 sixteen) t 0)
        go (suc zero) h e = go_clear 1 (get_or sixteen 1 none) f e tt (ends 1 h e) (round_at f (circle (dots G) (dots H) 0 sixteen) t 1)
        go (suc (suc zero)) h e = go_clear 2 (get_or sixteen 2 none) f e tt (ends 2 h e) (round_at f (circle (dots G) (dots H) 0 sixteen) t 2)
        go (suc (suc (suc zero))) h e = go_clear 3 (get_or sixteen 3 none) f e tt (ends 3 h e) (round_at f (circle (dots G) (dots H) 0 sixteen) t 3)
        go (suc (suc (suc (suc zero)))) h e = go_clear 4 (get_or sixteen 4 none) f e tt (ends 4 h e) (round_at f (circle (dots G) (dots H) 0 sixteen) t 4)
        go (suc (suc (suc (suc (suc n))))) h e = absurd (omega arith)

  module _ (C : Strip) (h : On C c) where
    band_clear_law : (f : Bool) → T (band_clear (dots CT) (bv_weights up300) (bn_weights up300) f (circle (dots G) (dots H) 0 sixteen) C) → Clear
    unfolding band_clear
    band_clear_law f t =
        let hs = s_held h in
        let hp = p_held (dots CT) (dots_held CT) h hs in
        let P = p_in (dots CT) C (s_in C) in
        round_clear_law P (dp_in (dots CT) C (s_in C) P) hp (dp_held (dots CT) (dots_held CT) h hs P hp) f t

  bands_clear_law : (s : Bool) (a : ℕ) (x : Band) (l : List Band) → T (le (grid s a) c) → T (le c (last_end x l)) → T (bands_clear (dots CT) (bv_weights up300) (bn_weights up300) (circle (dots G) (dots H) 0 sixteen) s a x l) → Clear
  unfolding bands_clear
  bands_clear_law s a x [] h k t = band_clear_law (strip s a x.below (in_grid x.m)) (record { is = record { low = h; high = k } }) x.radial t
  bands_clear_law s a x (y ∷ l) h k t =
      let C = strip s a x.below (in_grid x.m) in
      let q = band_clear (dots CT) (bv_weights up300) (bn_weights up300) x.radial (circle (dots G) (dots H) 0 sixteen) C in
      let r = bands_clear (dots CT) (bv_weights up300) (bn_weights up300) (circle (dots G) (dots H) 0 sixteen) x.below (in_grid x.m) y l in
      elim (total_le c (end x) (le_right (grid s a) c h) (no_nan_finite (end x) tt)) [
        | inl u ↦ band_clear_law C (record { is = record { low = h; high = u } }) x.radial (and_l q r t)
        | inr u ↦ bands_clear_law x.below (in_grid x.m) y l u k (and_r q r t)
      ]

  field_clear_law : (x : Band) (l : List Band) → T (le (grid true (in_grid 16)) c) → T (le c (last_end x l)) → T (field_clear x l) → Clear
  unfolding field_clear
  field_clear_law x l h k t = bands_clear_law true (in_grid 16) x l h k t

-- ---- the bands
abbrev radially : Bool → ℕ → Band
radially below m = record { below = below; m = m; radial = true }

abbrev northward : Bool → ℕ → Band
northward below m = record { below = below; m = m; radial = false }

abbrev bands : List Band
bands =
    radially true 14
    ∷ radially true 13
    ∷ radially true 12
    ∷ radially true 11
    ∷ northward true 10
    ∷ northward true 9
    ∷ northward true 8
    ∷ northward true 7
    ∷ northward true 5
    ∷ northward true 1
    ∷ northward false 1
    ∷ northward false 5
    ∷ northward false 8
    ∷ northward false 10
    ∷ radially false 12
    ∷ radially false 14
    ∷ radially false 15
    ∷ radially false 16
    ∷ []

-- the computation passes
all_clear : T (field_clear (radially true 15) bands)
unfolding field_clear bands_clear band_clear round_clear boxes_clear box_clear circle sectors sector bv_weights bn_weights bv_in bn_in sum_in ts_in ts_row ts_at s_in p_in p_first p_second p_next dp_in d_first d_second d_next dots dot_row dot row loop turnsFrom aor_of o HC CT G H clear_of to_span to_strip around size_down size_up times_strip about_zero larger corners minus_strip neg_strip plus_strip kept cut_up cut_down sum_sign sum_size sin32_in cos32_in sin_at_in cos_at_in sin_series_in cos_series_in reduced_in horner_in narrowed rooted negated times hull lesser greater plus minus point made quarter_of to_unsigned abs_of negative near_of half_pi fraction sin_terms cos_terms up_from alternating factorial narrow_of sqrt_of rounded closest_root root root_in of_int decimal minus_decimal round mul neg add sub div le
all_clear = tt

-- ---- everywhere
pub field_not_zero : (c : Float) (phi : Radians) → Between (fin true 1 (pos 0)) (fin false 1 (pos 0)) c → Between nought full phi.0
    → Away little (bv_of c (rest c) phi up300) ⊎ Away little (bn_of c (rest c) phi up300)
unfolding le
field_not_zero c phi b h =
    field_clear_law c phi h (radially true 15) bands
    (trans_le (grid true (in_grid 16)) (fin true 1 (pos 0)) c tt b.low)
    (trans_le c (fin false 1 (pos 0)) (grid false (in_grid 16)) b.high tt)
    all_clear
