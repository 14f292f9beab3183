-- magnetic.rs under its names, in closed form: sines, powers and Legendre's functions by their
-- recurrences, and the field as sums over them; each operation is one of the Rust's, in its order.
-- What the private contracts say of its arrays stands at the end. Assumes nothing.
use Rattle.std.specs.Prelude.{ℕ, zero, suc, ◌+◌, ◌-◌, ◌*◌, cond, List, [], ◌∷◌, replicate, pos, ◌==◌, nat_le, slice_index_or, slice_set, Float}
use Rattle.std.specs.Float.{nan, binary32}
use Rattle.std.specs.Float.Ieee.{neg, lt, le, of_int}
use Rattle.base.specs.Single.{◌⊕◌, ◌⊖◌, ◌⊗◌, ◌⊘◌, decimal, minus_decimal}
use Rattle.base.specs.Number.{sqrt_of}
use Rattle.base.specs.Elementary.{sin32_of, cos32_of, atan32_of}
use Rattle.base.specs.Angle.{radians_of}
use Rattle.base.specs.declared.angle.Radians.{Radians}
use Rattle.maps.specs.Loop.{loop}
use Rattle.maps.specs.declared.magnetic.Row.{Row}
use Rattle.maps.specs.declared.magnetic.Position.{Position}
use Rattle.maps.specs.declared.magnetic.Multiples.{Multiples}
use Rattle.maps.specs.declared.magnetic.Place.{Place}
use Rattle.maps.specs.declared.magnetic.Element.{Element}
use Rattle.maps.specs.declared.magnetic.Sums.{Sums}
use Rattle.maps.specs.declared.magnetic.Field.{Field}
use Rattle.maps.specs.declared.magnetic.Une.{Une}
use Rattle.maps.specs.declared.magnetic.MagneticVars.{MagneticVars}

-- ---- constants and tables, in the digits of the Rust

-- 0.0
unfoldable pub o : Float
o = decimal 0 1

-- about 89.9 degrees, in radians
unfoldable pub RD : Float
RD = decimal 156905124 8

-- the radius in metres that the coefficients are for
unfoldable pub HC : Float
HC = decimal 63712000 1

-- what the function two degrees below is taken off with
unfoldable pub CT : List (List Float)
CT =
    (o ∷ o ∷ o ∷ o ∷ o ∷ o ∷ o ∷ [])
    ∷ (o ∷ o ∷ o ∷ o ∷ o ∷ o ∷ o ∷ [])
    ∷ (decimal 33333333 8 ∷ o ∷ o ∷ o ∷ o ∷ o ∷ o ∷ [])
    ∷ (decimal 26666667 8 ∷ decimal 2 1 ∷ o ∷ o ∷ o ∷ o ∷ o ∷ [])
    ∷ (decimal 25714286 8 ∷ decimal 22857142 8 ∷ decimal 14285714 8 ∷ o ∷ o ∷ o ∷ o ∷ [])
    ∷ (decimal 25396825 8 ∷ decimal 23809523 8 ∷ decimal 19047619 8 ∷ decimal 11111111 8 ∷ o ∷ o ∷ o ∷ [])
    ∷ (decimal 25252525 8 ∷ decimal 24242424 8 ∷ decimal 21212121 8 ∷ decimal 16161616 8 ∷
    decimal 9090909 8 ∷ o ∷ o ∷ [])
    ∷ []

-- Jensen-Cain 1960 G coefficients
unfoldable pub G : List (List Float)
G =
    (o ∷ o ∷ o ∷ o ∷ o ∷ o ∷ o ∷ [])
    ∷ (decimal 304112 6 ∷ decimal 21474 6 ∷ o ∷ o ∷ o ∷ o ∷ o ∷ [])
    ∷ (decimal 24035 6 ∷ minus_decimal 51253 6 ∷ minus_decimal 13381 6 ∷ o ∷ o ∷ o ∷ o ∷ [])
    ∷ (minus_decimal 31518 6 ∷ decimal 62130 6 ∷ minus_decimal 24898 6 ∷ minus_decimal 6496 6 ∷ o ∷ o ∷ o ∷ [])
    ∷ (minus_decimal 41794 6 ∷ minus_decimal 45298 6 ∷ minus_decimal 21795 6 ∷ decimal 7008 6 ∷
    minus_decimal 2044 6 ∷ o ∷ o ∷ [])
    ∷ (decimal 16256 6 ∷ minus_decimal 34407 6 ∷ minus_decimal 19447 6 ∷ minus_decimal 608 6 ∷
    decimal 2775 6 ∷ decimal 697 6 ∷ o ∷ [])
    ∷ (minus_decimal 19523 6 ∷ minus_decimal 4853 6 ∷ decimal 3212 6 ∷ decimal 21413 6 ∷
    decimal 1051 6 ∷ decimal 227 6 ∷ decimal 1115 6 ∷ [])
    ∷ []

-- Jensen-Cain 1960 H coefficients
unfoldable pub H : List (List Float)
H =
    (o ∷ o ∷ o ∷ o ∷ o ∷ o ∷ o ∷ [])
    ∷ (o ∷ minus_decimal 57989 6 ∷ o ∷ o ∷ o ∷ o ∷ o ∷ [])
    ∷ (o ∷ decimal 33124 6 ∷ minus_decimal 1579 6 ∷ o ∷ o ∷ o ∷ o ∷ [])
    ∷ (o ∷ decimal 14870 6 ∷ minus_decimal 4075 6 ∷ decimal 21 5 ∷ o ∷ o ∷ o ∷ [])
    ∷ (o ∷ minus_decimal 11825 6 ∷ decimal 10006 6 ∷ decimal 43 5 ∷ decimal 1385 6 ∷ o ∷ o ∷ [])
    ∷ (o ∷ minus_decimal 796 6 ∷ minus_decimal 2 3 ∷ decimal 4597 6 ∷ decimal 2421 6 ∷ minus_decimal 1218 6 ∷ o ∷ [])
    ∷ (o ∷ minus_decimal 5758 6 ∷ minus_decimal 8735 6 ∷ minus_decimal 3406 6 ∷
    minus_decimal 118 6 ∷ minus_decimal 1116 6 ∷ minus_decimal 325 6 ∷ [])
    ∷ []

-- t[n][m] of a constant table
abbrev pub entry : List (List Float) → ℕ → ℕ → Float
entry t n m = slice_index_or (slice_index_or t n []) m nan

-- ---- the position

-- p1 and p2, after `if p1 > RD { .. } else if p1 < -RD { .. }`
unfoldable pub clamped_place : Radians → Radians → Position
clamped_place lat east_lon =
    cond (lt RD lat.0) (record { p1 = record { 0 = RD }; p2 = record { 0 = o } })
    (cond (lt lat.0 (neg RD)) (record { p1 = record { 0 = neg RD }; p2 = record { 0 = o } })
    (record { p1 = lat; p2 = east_lon }))

-- sp[m] and cp[m], the sine and the cosine of m times phi, by the rule for the sum of two angles
unfoldable mutual
  pub sp_of : Radians → ℕ → Float
  sp_of phi zero = o
  sp_of phi (suc zero) = sin32_of phi.0
  sp_of phi (suc (suc m)) = sin32_of phi.0 ⊗ cp_of phi (suc m) ⊕ cos32_of phi.0 ⊗ sp_of phi (suc m)

  pub cp_of : Radians → ℕ → Float
  cp_of phi zero = decimal 10 1
  cp_of phi (suc zero) = cos32_of phi.0
  cp_of phi (suc (suc m)) = cos32_of phi.0 ⊗ cp_of phi (suc m) ⊖ sin32_of phi.0 ⊗ sp_of phi (suc m)

-- aor[n], the power n + 2 of the ratio ar
unfoldable pub aor_of : Float → ℕ → Float
aor_of ar zero = ar ⊗ ar
aor_of ar (suc zero) = aor_of ar zero ⊗ ar
aor_of ar (suc (suc n)) = ar ⊗ aor_of ar (suc n)

-- ---- Legendre's functions, as Gauss normalised them

-- c is the sine of the latitude, which is the cosine of the colatitude, and s the sine of the
-- colatitude
module _ (c s : Float) where
  -- p[n][m]; 0 for m above n, where the Rust reads what it has never written
  unfoldable pub p_of : ℕ → ℕ → Float
  p_of zero m = cond (m == 0) (decimal 10 1) o
  p_of (suc zero) m = cond (m == 0) c (cond (m == 1) (s ⊗ p_of zero zero) o)
  p_of (suc (suc n)) m =
      cond (nat_le m (suc n)) (c ⊗ p_of (suc n) m ⊖ entry CT (suc (suc n)) m ⊗ p_of n m)
      (cond (m == suc (suc n)) (s ⊗ p_of (suc n) (suc n)) o)

  -- dp[n][m], its derivative by the colatitude; 0 for m above n too
  unfoldable pub dp_of : ℕ → ℕ → Float
  dp_of zero m = o
  dp_of (suc zero) m = cond (m == 0) (neg s) (cond (m == 1) (s ⊗ dp_of zero zero ⊕ c ⊗ p_of zero zero) o)
  dp_of (suc (suc n)) m =
      cond (nat_le m (suc n))
      (c ⊗ dp_of (suc n) m ⊖ s ⊗ p_of (suc n) m ⊖ entry CT (suc (suc n)) m ⊗ dp_of n m)
      (cond (m == suc (suc n)) (s ⊗ dp_of (suc n) (suc n) ⊕ c ⊗ p_of (suc n) (suc n)) o)

-- ---- the series

-- ts of the degree n and the order m
unfoldable pub ts_of : Radians → ℕ → ℕ → Float
ts_of phi n m = entry G n m ⊗ cp_of phi m ⊕ entry H n m ⊗ sp_of phi m

module _ (c s : Float) (phi : Radians) where
  -- sumr, sumt and sump of the degree n: for m in 0..=n, from 0.0
  unfoldable pub sumr_of : ℕ → Float
  sumr_of n = loop 0 (n + 1) (λ m sumr. sumr ⊕ p_of c s n m ⊗ ts_of phi n m) o

  unfoldable pub sumt_of : ℕ → Float
  sumt_of n = loop 0 (n + 1) (λ m sumt. sumt ⊕ dp_of c s n m ⊗ ts_of phi n m) o

  unfoldable pub sump_of : ℕ → Float
  sump_of n =
      loop 0 (n + 1)
      (λ m sump.
      sump ⊕ of_int binary32 (pos m) ⊗ p_of c s n m ⊗ (neg (entry G n m) ⊗ sp_of phi m ⊕ entry H n m ⊗ cp_of phi m))
      o

  -- bv, bn and bphi: for n in 1..7, from 0.0
  unfoldable pub bv_of : Float → Float
  bv_of ar = loop 1 7 (λ n bv. bv ⊕ aor_of ar n ⊗ of_int binary32 (pos (n + 1)) ⊗ sumr_of n) o

  unfoldable pub bn_of : Float → Float
  bn_of ar = loop 1 7 (λ n bn. bn ⊖ aor_of ar n ⊗ sumt_of n) o

  unfoldable pub bphi_of : Float → Float
  bphi_of ar = loop 1 7 (λ n bphi. bphi ⊖ aor_of ar n ⊗ sump_of n) o

-- ---- the field, the gyrofrequency and the dip angle

-- [-bv, bn, -bphi / s], where c is p1.sin(), s is (1.0 - c * c).sqrt(), and ar the ratio of the
-- radii
unfoldable pub magfin_of : Radians → Radians → Float → Une
magfin_of lat east_lon height_m =
    let q = clamped_place lat east_lon in
    let ar = HC ⊘ (HC ⊕ height_m) in
    let c = sin32_of q.p1.0 in
    let s = sqrt_of binary32 (decimal 10 1 ⊖ c ⊗ c) in
    record { up = neg (bv_of c s q.p2 ar); north = bn_of c s q.p2 ar; east = neg (bphi_of c s q.p2 ar) ⊘ s }

-- if lon < 0.0 { c360 + lon } else { lon }, where c360 is 360.0 * D2R
unfoldable pub east_of : Radians → Radians
east_of lon =
    let c360 = radians_of (record { 0 = decimal 3600 1 }) in
    cond (lt lon.0 o) (record { 0 = c360.0 ⊕ lon.0 }) lon

-- lat.cos(), and 0.000001 if it is no more than that
unfoldable pub gob_of : Radians → Float
gob_of lat = let gob = cos32_of lat.0 in cond (le gob (decimal 1 6)) (decimal 1 6) gob

-- gyz, gmdip and east_lon. gmdip is Rawer's modified dip mu: tan(mu) = I / sqrt(cos lat), where I
-- is the dip.
unfoldable pub magvar_of : Radians → Radians → MagneticVars
magvar_of lat lon =
    let east_lon = east_of lon in
    let une = magfin_of lat east_lon (decimal 3000000 1) in
    let hhm = sqrt_of binary32 (une.up ⊗ une.up ⊕ une.north ⊗ une.north ⊕ une.east ⊗ une.east) in
    let tmp = une.north ⊗ une.north ⊕ une.east ⊗ une.east in
    let dip = atan32_of (neg une.up ⊘ sqrt_of binary32 tmp) in
    let gmdip = atan32_of (dip ⊘ sqrt_of binary32 (gob_of lat)) in
    record { gyz = decimal 28 1 ⊗ hhm; gmdip = record { 0 = gmdip }; east_lon = east_lon }

-- ---- the arrays on the way: nothing below need be believed

-- Only private contracts and proofs use what follows; that the arrays hold the functions above is
-- proofs/FieldSums.antt. A table of 7 by 7 numbers that changes stands as one list, row after row.

-- CT[n], G[n] and H[n]
unfoldable pub table_row : ℕ → Row
table_row n = record { ct = slice_index_or CT n []; g = slice_index_or G n []; h = slice_index_or H n [] }

-- a[m]
abbrev pub at : List Float → ℕ → Float
at l m = slice_index_or l m nan

-- t[n][m], where the rows stand one after the other
abbrev pub at7 : List Float → ℕ → ℕ → Float
at7 t n m = slice_index_or t (n * 7 + m) nan

-- the stores to sp[m] and cp[m]
unfoldable pub multiple_of : ℕ → Multiples → Multiples
multiple_of m v =
    record {
      sp = slice_set v.sp m (at v.sp 1 ⊗ at v.cp (m - 1) ⊕ at v.cp 1 ⊗ at v.sp (m - 1));
      cp = slice_set v.cp m (at v.cp 1 ⊗ at v.cp (m - 1) ⊖ at v.sp 1 ⊗ at v.sp (m - 1));
    }

-- sp and cp
unfoldable pub multiples_of : Radians → Multiples
multiples_of phi =
    loop 2 7 multiple_of
    (record {
      sp = o ∷ sin32_of phi.0 ∷ o ∷ o ∷ o ∷ o ∷ o ∷ [];
      cp = decimal 10 1 ∷ cos32_of phi.0 ∷ o ∷ o ∷ o ∷ o ∷ o ∷ [];
    })

-- the store to aor[m]
unfoldable pub aor_step : Float → ℕ → List Float → List Float
aor_step ar m aor = slice_set aor m (ar ⊗ at aor (m - 1))

-- aor: aor[0] is ar * ar, and aor[1] is aor[0] * ar
unfoldable pub powers_of : Float → List Float
powers_of ar = loop 2 7 (aor_step ar) (ar ⊗ ar ∷ ar ⊗ ar ⊗ ar ∷ o ∷ o ∷ o ∷ o ∷ o ∷ [])

-- what stands before the loop over n: c is p1.sin(), and s is (1.0 - c * c).sqrt()
unfoldable pub placed_of : Radians → Radians → Float → Place
placed_of lat east_lon height_m =
    let q = clamped_place lat east_lon in
    let ar = HC ⊘ (HC ⊕ height_m) in
    let c = sin32_of q.p1.0 in
    let v = multiples_of q.p2 in
    record {
      c = c;
      s = sqrt_of binary32 (decimal 10 1 ⊖ c ⊗ c);
      sp = v.sp;
      cp = v.cp;
      aor = powers_of ar;
    }

-- p[n][m] and dp[n][m], where ct is CT[n][m]
unfoldable pub element_of : Float → Float → Float → ℕ → ℕ → List Float → List Float → Element
element_of c s ct n m p dp =
    cond (n == m)
    (record {
      p = s ⊗ at7 p (n - 1) (n - 1);
      dp = s ⊗ at7 dp (n - 1) (n - 1) ⊕ c ⊗ at7 p (n - 1) (n - 1);
    })
    (cond (n == 1) (record { p = c; dp = neg s })
    (record {
      p = c ⊗ at7 p (n - 1) m ⊖ ct ⊗ at7 p (n - 2) m;
      dp = c ⊗ at7 dp (n - 1) m ⊖ s ⊗ at7 p (n - 1) m ⊖ ct ⊗ at7 dp (n - 2) m;
    }))

-- p, dp and the sums that a loop keeps beside them
pub record State (A : Type 0) : Type 0 where
  pub p : List Float
  pub dp : List Float
  pub sums : A

abbrev pub state : {A : Type 0} → List Float → List Float → A → State A
state p dp v = record { p = p; dp = dp; sums = v }

-- the body of the loop over m
unfoldable pub order_of : Place → ℕ → ℕ → State Sums → State Sums
order_of x n m w =
    let e = element_of x.c x.s (entry CT n m) n m w.p w.dp in
    let fm = of_int binary32 (pos m) in
    let ts = entry G n m ⊗ at x.cp m ⊕ entry H n m ⊗ at x.sp m in
    state (slice_set w.p (n * 7 + m) e.p) (slice_set w.dp (n * 7 + m) e.dp)
    (record {
      sumr = w.sums.sumr ⊕ e.p ⊗ ts;
      sumt = w.sums.sumt ⊕ e.dp ⊗ ts;
      sump = w.sums.sump ⊕ fm ⊗ e.p ⊗ (neg (entry G n m) ⊗ at x.sp m ⊕ entry H n m ⊗ at x.cp m);
    })

-- for m in 0..=n
unfoldable pub orders_of : Place → ℕ → List Float → List Float → State Sums
orders_of x n p dp = loop 0 (n + 1) (order_of x n) (state p dp (record { sumr = o; sumt = o; sump = o }))

-- the body of the loop over n
unfoldable pub degree_of : Place → ℕ → State Field → State Field
degree_of x n w =
    let fn = of_int binary32 (pos (n + 1)) in
    let v = orders_of x n w.p w.dp in
    state v.p v.dp
    (record {
      bv = w.sums.bv ⊕ at x.aor n ⊗ fn ⊗ v.sums.sumr;
      bn = w.sums.bn ⊖ at x.aor n ⊗ v.sums.sumt;
      bphi = w.sums.bphi ⊖ at x.aor n ⊗ v.sums.sump;
    })

-- for n in 1..7: bv, bn and bphi, from p[0][0] = 1.0 and zeros
unfoldable pub expansion_of : Place → Field
expansion_of x =
    (loop 1 7 (degree_of x)
    (state (slice_set (replicate 49 o) 0 (decimal 10 1)) (replicate 49 o) (record { bv = o; bn = o; bphi = o }))
    ).sums
