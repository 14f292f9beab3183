-- The field's expansion over intervals (`Spans`), step by step as `expansion_of`: what holds the
-- sines, the cosines and s of a place gives what holds its field. Assumes nothing.
use Rattle.std.proofs.Common.{Bool, true, false, cond, List, [], ◌∷◌, ℕ, zero, suc, ◌+◌, ◌-◌, ◌*◌, eqb, pos, get_or, set, replicate, Float}
use lib.Ieee.{binary32, neg, of_int}
use Rattle.base.specs.Single.{◌⊕◌, ◌⊖◌, ◌⊗◌, ◌⊘◌, decimal}
use Rattle.base.specs.Elementary.{sin32_of, cos32_of}
use Rattle.base.specs.declared.angle.Radians.{Radians}
use Rattle.results.proofs.numbers.Spans.{Span, any, In, point, plus, minus, times, negated, rooted, Each, points, point_in, plus_in, minus_in, times_in, negated_in, rooted_in, each_at, each_set, points_in}
use Rattle.maps.specs.Loop.{loop, times as turns}
use Rattle.maps.specs.declared.magnetic.Multiples.{Multiples}
use Rattle.maps.specs.declared.magnetic.Place.{Place}
use Rattle.maps.specs.declared.magnetic.Element.{Element}
use Rattle.maps.specs.declared.magnetic.Sums.{Sums}
use Rattle.maps.specs.declared.magnetic.Field.{Field}
use Rattle.maps.specs.Magnetic.{o, HC, CT, G, H, entry, at7, clamped_place, multiple_of, multiples_of, powers_of, placed_of, element_of, State, order_of, orders_of, degree_of, expansion_of}

-- ---- a loop keeps what its body keeps
module _ {A B : Type 0} (R : A → B → Type 0) (f : ℕ → A → A) (g : ℕ → B → B) (step : (m : ℕ) (x : A) (y : B) → R x y → R (f m x) (g m y)) where
  turns_keep : (a k : ℕ) (x : A) (y : B) → R x y → R (turns f a k x) (turns g a k y)
  unfolding turns
  turns_keep a zero x y h = h
  turns_keep a (suc k) x y h = step (a + k) (turns f a k x) (turns g a k y) (turns_keep a k x y h)

  loop_keep : (a b : ℕ) (x : A) (y : B) → R x y → R (loop a b f x) (loop a b g y)
  unfolding loop
  loop_keep a b x y h = turns_keep a (b - a) x y h

-- ---- operations of binary32, and places in lists
infixl 60 ◌+ᵢ◌ ◌-ᵢ◌
infixl 70 ◌×ᵢ◌
abbrev ◌+ᵢ◌ : Span → Span → Span
i +ᵢ j = plus binary32 i j

abbrev ◌-ᵢ◌ : Span → Span → Span
i -ᵢ j = minus binary32 i j

abbrev ◌×ᵢ◌ : Span → Span → Span
i ×ᵢ j = times binary32 i j

sum : {i j : Span} {x y : Float} → In i x → In j y → In (i +ᵢ j) (x ⊕ y)
sum {i} {j} h k = plus_in binary32 i j h k

difference : {i j : Span} {x y : Float} → In i x → In j y → In (i -ᵢ j) (x ⊖ y)
difference {i} {j} h k = minus_in binary32 i j h k

product : {i j : Span} {x y : Float} → In i x → In j y → In (i ×ᵢ j) (x ⊗ y)
product {i} {j} h k = times_in binary32 i j h k

abbrev at_in : List Span → ℕ → Span
at_in l m = get_or l m any

abbrev at7_in : List Span → ℕ → ℕ → Span
at7_in t n m = get_or t (n * 7 + m) any

-- ---- sines and cosines of the multiples of the longitude
pub record MultiplesIn : Type 0 where
  pub sp : List Span
  pub cp : List Span

record HasMultiples (Vs : MultiplesIn) (v : Multiples) : Type 0 where
  pub sp : Each Vs.sp v.sp
  pub cp : Each Vs.cp v.cp

unfoldable pub multiple_in : ℕ → MultiplesIn → MultiplesIn
multiple_in m v =
    record {
      sp = set v.sp m (at_in v.sp 1 ×ᵢ at_in v.cp (m - 1) +ᵢ at_in v.cp 1 ×ᵢ at_in v.sp (m - 1));
      cp = set v.cp m (at_in v.cp 1 ×ᵢ at_in v.cp (m - 1) -ᵢ at_in v.sp 1 ×ᵢ at_in v.sp (m - 1));
    }

multiple_in_law : (m : ℕ) (Vs : MultiplesIn) (v : Multiples) → HasMultiples Vs v → HasMultiples (multiple_in m Vs) (multiple_of m v)
unfolding multiple_in multiple_of
multiple_in_law m Vs v h =
    let s1 = each_at Vs.sp v.sp h.sp 1 in
    let c1 = each_at Vs.cp v.cp h.cp 1 in
    let s = each_at Vs.sp v.sp h.sp (m - 1) in
    let c = each_at Vs.cp v.cp h.cp (m - 1) in
    record {
      sp = each_set Vs.sp v.sp h.sp (sum (product s1 c) (product c1 s)) m;
      cp = each_set Vs.cp v.cp h.cp (difference (product c1 c) (product s1 s)) m;
    }

-- from an interval for the sine and one for the cosine
unfoldable pub multiples_in : Span → Span → MultiplesIn
unfolding multiple_in
multiples_in s c =
    let z = point o in
    loop 2 7 multiple_in (record { sp = z ∷ s ∷ z ∷ z ∷ z ∷ z ∷ z ∷ []; cp = point (decimal 10 1) ∷ c ∷ z ∷ z ∷ z ∷ z ∷ z ∷ [] })

-- ---- a place
pub record PlaceIn : Type 0 where
  pub c : Span
  pub s : Span
  pub sp : List Span
  pub cp : List Span
  pub aor : List Span

pub record HasPlace (X : PlaceIn) (x : Place) : Type 0 where
  pub c : In X.c x.c
  pub s : In X.s x.s
  pub sp : Each X.sp x.sp
  pub cp : Each X.cp x.cp
  pub aor : Each X.aor x.aor

-- ---- the expansion
pub record ElementIn : Type 0 where
  pub p : Span
  pub dp : Span

record HasElement (E : ElementIn) (e : Element) : Type 0 where
  pub p : In E.p e.p
  pub dp : In E.dp e.dp

unfoldable pub element_in : Span → Span → Span → ℕ → ℕ → List Span → List Span → ElementIn
element_in c s ct n m p dp =
    cond (eqb n m) (record { p = s ×ᵢ at7_in p (n - 1) (n - 1); dp = s ×ᵢ at7_in dp (n - 1) (n - 1) +ᵢ c ×ᵢ at7_in p (n - 1) (n - 1) })
    (cond (eqb n 1) (record { p = c; dp = negated s })
    (record {
      p = c ×ᵢ at7_in p (n - 1) m -ᵢ ct ×ᵢ at7_in p (n - 2) m;
      dp = c ×ᵢ at7_in dp (n - 1) m -ᵢ s ×ᵢ at7_in p (n - 1) m -ᵢ ct ×ᵢ at7_in dp (n - 2) m;
    }))

element_in_law : {C S : Span} {c s : Float} (ct : Float) (n m : ℕ) (P D : List Span) (p dp : List Float) → In C c → In S s → Each P p → Each D dp → HasElement (element_in C S (point ct) n m P D) (element_of c s ct n m p dp)
unfolding element_in element_of
element_in_law {C} {S} {c} {s} ct n m P D p dp hc hs hp hd = go (eqb n m) (eqb n 1)
  where
    go : (a b : Bool)
        → HasElement
        (cond a (record { p = S ×ᵢ at7_in P (n - 1) (n - 1); dp = S ×ᵢ at7_in D (n - 1) (n - 1) +ᵢ C ×ᵢ at7_in P (n - 1) (n - 1) })
        (cond b (record { p = C; dp = negated S })
        (record { p = C ×ᵢ at7_in P (n - 1) m -ᵢ point ct ×ᵢ at7_in P (n - 2) m; dp = C ×ᵢ at7_in D (n - 1) m -ᵢ S ×ᵢ at7_in P (n - 1) m -ᵢ point ct ×ᵢ at7_in D (n - 2) m })))
        (cond a (record { p = s ⊗ at7 p (n - 1) (n - 1); dp = s ⊗ at7 dp (n - 1) (n - 1) ⊕ c ⊗ at7 p (n - 1) (n - 1) })
        (cond b (record { p = c; dp = neg s })
        (record { p = c ⊗ at7 p (n - 1) m ⊖ ct ⊗ at7 p (n - 2) m; dp = c ⊗ at7 dp (n - 1) m ⊖ s ⊗ at7 p (n - 1) m ⊖ ct ⊗ at7 dp (n - 2) m })))
    go true b =
        let u = each_at P p hp ((n - 1) * 7 + (n - 1)) in
        let v = each_at D dp hd ((n - 1) * 7 + (n - 1)) in
        record { p = product hs u; dp = sum (product hs v) (product hc u) }
    go false true = record { p = hc; dp = negated_in S hs }
    go false false =
        let u = each_at P p hp ((n - 1) * 7 + m) in
        let v = each_at D dp hd ((n - 1) * 7 + m) in
        let u' = each_at P p hp ((n - 2) * 7 + m) in
        let v' = each_at D dp hd ((n - 2) * 7 + m) in
        record { p = difference (product hc u) (product (point_in ct) u'); dp = difference (difference (product hc v) (product hs u)) (product (point_in ct) v') }

-- p, dp and three sums
pub record Work : Type 0 where
  pub p : List Span
  pub dp : List Span
  pub r : Span
  pub t : Span
  pub f : Span

record HasSums (W : Work) (w : State Sums) : Type 0 where
  pub p : Each W.p w.p
  pub dp : Each W.dp w.dp
  pub r : In W.r w.sums.sumr
  pub t : In W.t w.sums.sumt
  pub f : In W.f w.sums.sump

record HasField (W : Work) (w : State Field) : Type 0 where
  pub p : Each W.p w.p
  pub dp : Each W.dp w.dp
  pub r : In W.r w.sums.bv
  pub t : In W.t w.sums.bn
  pub f : In W.f w.sums.bphi

unfoldable pub order_in : PlaceIn → ℕ → ℕ → Work → Work
unfolding element_in
order_in x n m w =
    let e = element_in x.c x.s (point (entry CT n m)) n m w.p w.dp in
    let ts = point (entry G n m) ×ᵢ at_in x.cp m +ᵢ point (entry H n m) ×ᵢ at_in x.sp m in
    record {
      p = set w.p (n * 7 + m) e.p;
      dp = set w.dp (n * 7 + m) e.dp;
      r = w.r +ᵢ e.p ×ᵢ ts;
      t = w.t +ᵢ e.dp ×ᵢ ts;
      f = w.f +ᵢ point (of_int binary32 (pos m)) ×ᵢ e.p ×ᵢ (point (neg (entry G n m)) ×ᵢ at_in x.sp m +ᵢ point (entry H n m) ×ᵢ at_in x.cp m);
    }

order_in_law : (X : PlaceIn) (x : Place) → HasPlace X x → (n m : ℕ) (W : Work) (w : State Sums) → HasSums W w → HasSums (order_in X n m W) (order_of x n m w)
unfolding order_in order_of
order_in_law X x h n m W w k =
    let e = element_in_law (entry CT n m) n m W.p W.dp w.p w.dp h.c h.s k.p k.dp in
    let c = each_at X.cp x.cp h.cp m in
    let s = each_at X.sp x.sp h.sp m in
    let ts = sum (product (point_in (entry G n m)) c) (product (point_in (entry H n m)) s) in
    record {
      p = each_set W.p w.p k.p e.p (n * 7 + m);
      dp = each_set W.dp w.dp k.dp e.dp (n * 7 + m);
      r = sum k.r (product e.p ts);
      t = sum k.t (product e.dp ts);
      f = sum k.f (product (product (point_in (of_int binary32 (pos m))) e.p) (sum (product (point_in (neg (entry G n m))) s) (product (point_in (entry H n m)) c)));
    }

unfoldable pub orders_in : PlaceIn → ℕ → List Span → List Span → Work
unfolding order_in
orders_in x n p dp = loop 0 (n + 1) (order_in x n) (record { p = p; dp = dp; r = point o; t = point o; f = point o })

orders_in_law : (X : PlaceIn) (x : Place) → HasPlace X x → (n : ℕ) (P D : List Span) (p dp : List Float) → Each P p → Each D dp → HasSums (orders_in X n P D) (orders_of x n p dp)
unfolding orders_in orders_of
orders_in_law X x h n P D p dp hp hd = loop_keep HasSums (order_in X n) (order_of x n) (order_in_law X x h n) 0 (n + 1) _ _ (record { p = hp; dp = hd; r = point_in o; t = point_in o; f = point_in o })

unfoldable pub degree_in : PlaceIn → ℕ → Work → Work
unfolding orders_in
degree_in x n w =
    let v = orders_in x n w.p w.dp in
    let a = at_in x.aor n in
    record {
      p = v.p;
      dp = v.dp;
      r = w.r +ᵢ a ×ᵢ point (of_int binary32 (pos (n + 1))) ×ᵢ v.r;
      t = w.t -ᵢ a ×ᵢ v.t;
      f = w.f -ᵢ a ×ᵢ v.f;
    }

degree_in_law : (X : PlaceIn) (x : Place) → HasPlace X x → (n : ℕ) (W : Work) (w : State Field) → HasField W w → HasField (degree_in X n W) (degree_of x n w)
unfolding degree_in degree_of
degree_in_law X x h n W w k =
    let v = orders_in_law X x h n W.p W.dp w.p w.dp k.p k.dp in
    let a = each_at X.aor x.aor h.aor n in
    record {
      p = v.p;
      dp = v.dp;
      r = sum k.r (product (product a (point_in (of_int binary32 (pos (n + 1))))) v.r);
      t = difference k.t (product a v.t);
      f = difference k.f (product a v.f);
    }

unfoldable pub expansion_in : PlaceIn → Work
unfolding degree_in points
expansion_in x =
    loop 1 7 (degree_in x)
    (record { p = points (set (replicate 49 o) 0 (decimal 10 1)); dp = points (replicate 49 o); r = point o; t = point o; f = point o })

pub record HasExpansion (W : Work) (b : Field) : Type 0 where
  pub bv : In W.r b.bv
  pub bn : In W.t b.bn
  pub bphi : In W.f b.bphi

expansion_in_law : (X : PlaceIn) (x : Place) → HasPlace X x → HasExpansion (expansion_in X) (expansion_of x)
unfolding expansion_in expansion_of
expansion_in_law X x h =
    let w = loop_keep HasField (degree_in X) (degree_of x) (degree_in_law X x h) 1 7 _ _ (record { p = points_in (set (replicate 49 o) 0 (decimal 10 1)); dp = points_in (replicate 49 o); r = point_in o; t = point_in o; f = point_in o }) in
    record { bv = w.r; bn = w.t; bphi = w.f }

-- ---- 300 km over a place whose sine of latitude is in c, and whose sine and cosine of longitude
-- are in sin and cos
unfoldable pub place_in : Span → Span → Span → PlaceIn
unfolding multiples_in rooted points
place_in c sin cos =
    let v = multiples_in sin cos in
    record { c = c; s = rooted binary32 (point (decimal 10 1) -ᵢ c ×ᵢ c); sp = v.sp; cp = v.cp; aor = points (powers_of (HC ⊘ (HC ⊕ decimal 3000000 1))) }

multiples_in_law : (phi : Radians) {S C : Span} → In S (sin32_of phi.0) → In C (cos32_of phi.0) → HasMultiples (multiples_in S C) (multiples_of phi)
unfolding multiples_in multiples_of
multiples_in_law phi h k =
    let z = point_in o in
    loop_keep HasMultiples multiple_in multiple_of multiple_in_law 2 7 _ _ (record { sp = (z, (h, (z, (z, (z, (z, (z, tt))))))); cp = (point_in (decimal 10 1), (k, (z, (z, (z, (z, (z, tt))))))) })

pub place_in_law : (lat east_lon : Radians) {C S K : Span} → In C (sin32_of (clamped_place lat east_lon).p1.0) → In S (sin32_of (clamped_place lat east_lon).p2.0) → In K (cos32_of (clamped_place lat east_lon).p2.0) → HasPlace (place_in C S K) (placed_of lat east_lon (decimal 3000000 1))
unfolding place_in placed_of
place_in_law lat east_lon {C} h k l =
    let v = multiples_in_law (clamped_place lat east_lon).p2 k l in
    record { c = h; s = rooted_in binary32 (point (decimal 10 1) -ᵢ C ×ᵢ C) (difference (point_in (decimal 10 1)) (product h h)); sp = v.sp; cp = v.cp; aor = points_in (powers_of (HC ⊘ (HC ⊕ decimal 3000000 1))) }

pub expansion_at : (lat east_lon : Radians) {C S K : Span} → In C (sin32_of (clamped_place lat east_lon).p1.0) → In S (sin32_of (clamped_place lat east_lon).p2.0) → In K (cos32_of (clamped_place lat east_lon).p2.0) → HasExpansion (expansion_in (place_in C S K)) (expansion_of (placed_of lat east_lon (decimal 3000000 1)))
expansion_at lat east_lon h k l = expansion_in_law _ _ (place_in_law lat east_lon h k l)
