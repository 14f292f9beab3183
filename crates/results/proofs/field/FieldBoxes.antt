-- The field over intervals (`Strips`), by the closed forms of specs/Magnetic.antt: from what holds
-- the sine c of the latitude and the sine and the cosine of the longitude, tables of what holds
-- Legendre's functions and the waves, and from them what holds bv and bn. Assumes nothing.
use Rattle.std.proofs.Common.{◌≡◌, subst, Bool, true, false, cond, List, [], ◌∷◌, ℕ, zero, suc, ◌+◌, ◌-◌, arith, eqb, leb, pos, get_or, Float}
use lib.Ieee.{nan, binary32, neg, of_int}
use Rattle.base.specs.Single.{◌⊕◌, ◌⊖◌, ◌⊗◌, decimal}
use Rattle.base.specs.Number.{sqrt_of}
use Rattle.base.specs.Elementary.{sin32_of, cos32_of}
use Rattle.base.specs.declared.angle.Radians.{Radians}
use Rattle.results.proofs.numbers.Spans.{point, minus, times, rooted, point_in, minus_in, times_in, rooted_in}
use Rattle.results.proofs.field.Strips.{Strip, all, On, anywhere, plus_strip, minus_strip, neg_strip, times_strip, to_strip, to_span, plus_on, minus_on, neg_on, times_on, to_on, span_in}
use Rattle.maps.specs.Loop.{loop, times as turns}
use Rattle.maps.specs.Magnetic.{o, CT, G, H, entry, sp_of, cp_of, aor_of, p_of, dp_of, ts_of, sumr_of, sumt_of, bv_of, bn_of}

-- ---- operations of binary32
infixl 60 ◌+ᵢ◌ ◌-ᵢ◌
infixl 70 ◌×ᵢ◌
abbrev ◌+ᵢ◌ : Strip → Strip → Strip
i +ᵢ j = plus_strip i j

abbrev ◌-ᵢ◌ : Strip → Strip → Strip
i -ᵢ j = minus_strip i j

abbrev ◌×ᵢ◌ : Strip → Strip → Strip
i ×ᵢ j = times_strip i j

sum : {i j : Strip} {x y : Float} → On i x → On j y → On (i +ᵢ j) (x ⊕ y)
sum {i} {j} h k = plus_on i j h k

difference : {i j : Strip} {x y : Float} → On i x → On j y → On (i -ᵢ j) (x ⊖ y)
difference {i} {j} h k = minus_on i j h k

product : {i j : Strip} {x y : Float} → On i x → On j y → On (i ×ᵢ j) (x ⊗ y)
product {i} {j} h k = times_on i j h k

-- one number
unfoldable pub dot : Float → Strip
unfolding to_strip point
dot x = to_strip (point x)

pub dot_on : (x : Float) → On (dot x) x
unfolding dot
dot_on x = to_on (point x) (point_in x)

-- ---- a loop keeps what its body keeps
module _ (F : ℕ → Strip → Strip) (f : ℕ → Float → Float) (step : (m : ℕ) (i : Strip) (x : Float) → On i x → On (F m i) (f m x)) where
  turns_held : (a k : ℕ) (i : Strip) (x : Float) → On i x → On (turns F a k i) (turns f a k x)
  unfolding turns
  turns_held a zero i x h = h
  turns_held a (suc k) i x h = step (a + k) (turns F a k i) (turns f a k x) (turns_held a k i x h)

  loop_held : (a b : ℕ) (i : Strip) (x : Float) → On i x → On (loop a b F i) (loop a b f x)
  unfolding loop
  loop_held a b i x h = turns_held a (b - a) i x h

-- ---- rows and tables, with nothing known beyond their ends
abbrev pub at : List Strip → ℕ → Strip
at l m = get_or l m all

pub record Row (l : List Strip) (f : ℕ → Float) : Type 0 where
  pub each : (m : ℕ) → On (at l m) (f m)

pub record Table (t : List (List Strip)) (f : ℕ → ℕ → Float) : Type 0 where
  pub each : (n : ℕ) → Row (get_or t n []) (f n)

-- F k, F (k + 1), .., n of them
unfoldable pub row : (ℕ → Strip) → ℕ → ℕ → List Strip
row F k zero = []
row F k (suc n) = F k ∷ row F (suc k) n

module _ (F : ℕ → Strip) (f : ℕ → Float) (h : (m : ℕ) → On (F m) (f m)) where
  from_held : (k n j : ℕ) → On (at (row F k n) j) (f (k + j))
  unfolding row
  from_held k zero j = anywhere
  from_held k (suc n) zero = let e : k ≡ k + zero = omega arith in subst (λ (i : ℕ). On (F k) (f i)) e (h k)
  from_held k (suc n) (suc j) = let e : suc k + j ≡ k + suc j = omega arith in subst (λ (i : ℕ). On (at (row F (suc k) n) j) (f i)) e (from_held (suc k) n j)

  row_held : (n : ℕ) → Row (row F 0 n) f
  row_held n = record { each = λ m. let e : 0 + m ≡ m = omega arith in subst (λ (i : ℕ). On (at (row F 0 n) m) (f i)) e (from_held 0 n m) }

-- a list of seven, with nothing known beyond its end
module _ {A : Type 0} (P : ℕ → A → Type 0) (d : A) (beyond : (n : ℕ) → P n d) {a0 a1 a2 a3 a4 a5 a6 : A} (h0 : P 0 a0) (h1 : P 1 a1) (h2 : P 2 a2) (h3 : P 3 a3) (h4 : P 4 a4) (h5 : P 5 a5) (h6 : P 6 a6) where
  seven_held : (n : ℕ) → P n (get_or (a0 ∷ a1 ∷ a2 ∷ a3 ∷ a4 ∷ a5 ∷ a6 ∷ []) n d)
  seven_held zero = h0
  seven_held (suc zero) = h1
  seven_held (suc (suc zero)) = h2
  seven_held (suc (suc (suc zero))) = h3
  seven_held (suc (suc (suc (suc zero)))) = h4
  seven_held (suc (suc (suc (suc (suc zero))))) = h5
  seven_held (suc (suc (suc (suc (suc (suc zero)))))) = h6
  seven_held (suc (suc (suc (suc (suc (suc (suc n))))))) = beyond _

module _ (f : ℕ → ℕ → Float) {r0 r1 r2 r3 r4 r5 r6 : List Strip} (h0 : Row r0 (f 0)) (h1 : Row r1 (f 1)) (h2 : Row r2 (f 2)) (h3 : Row r3 (f 3)) (h4 : Row r4 (f 4)) (h5 : Row r5 (f 5)) (h6 : Row r6 (f 6)) where
  table_held : Table (r0 ∷ r1 ∷ r2 ∷ r3 ∷ r4 ∷ r5 ∷ r6 ∷ []) f
  table_held = record { each = seven_held (λ n r. Row r (f n)) [] (λ n. record { each = λ m. anywhere }) h0 h1 h2 h3 h4 h5 h6 }

-- tables of numbers
unfoldable pub dot_row : List Float → List Strip
unfolding dot
dot_row [] = []
dot_row (x ∷ l) = dot x ∷ dot_row l

unfoldable pub dots : List (List Float) → List (List Strip)
unfolding dot_row
dots [] = []
dots (r ∷ t) = dot_row r ∷ dots t

dot_row_law : (l : List Float) (m : ℕ) → On (at (dot_row l) m) (get_or l m nan)
unfolding dot_row
dot_row_law [] m = anywhere
dot_row_law (x ∷ l) zero = dot_on x
dot_row_law (x ∷ l) (suc m) = dot_row_law l m

dots_cell : (t : List (List Float)) (n m : ℕ) → On (at (get_or (dots t) n []) m) (entry t n m)
unfolding dots
dots_cell [] n m = anywhere
dots_cell (r ∷ t) zero m = dot_row_law r m
dots_cell (r ∷ t) (suc n) m = dots_cell t n m

pub dots_held : (t : List (List Float)) → Table (dots t) (entry t)
dots_held t = record { each = λ n. record { each = dots_cell t n } }

-- ---- Legendre's functions: the clauses of `p_of` and `dp_of`, the rows below standing as lists
module _ (ct : List (List Strip)) (C S : Strip) where
  unfoldable pub p_first : ℕ → Strip
  p_first m = cond (eqb m 0) (dot (decimal 10 1)) (dot o)

  unfoldable pub p_second : ℕ → Strip
  p_second m = cond (eqb m 0) C (cond (eqb m 1) (S ×ᵢ dot (decimal 10 1)) (dot o))

  unfoldable pub p_next : ℕ → List Strip → List Strip → ℕ → Strip
  p_next n r q m =
      cond (leb m (suc n)) (C ×ᵢ at r m -ᵢ at (get_or ct (suc (suc n)) []) m ×ᵢ at q m)
      (cond (eqb m (suc (suc n))) (S ×ᵢ at r (suc n)) (dot o))

  unfoldable pub d_first : ℕ → Strip
  d_first m = dot o

  unfoldable pub d_second : ℕ → Strip
  d_second m = cond (eqb m 0) (neg_strip S) (cond (eqb m 1) (S ×ᵢ dot o +ᵢ C ×ᵢ dot (decimal 10 1)) (dot o))

  unfoldable pub d_next : ℕ → List Strip → List Strip → List Strip → ℕ → Strip
  d_next n r d b m =
      cond (leb m (suc n)) (C ×ᵢ at d m -ᵢ S ×ᵢ at r m -ᵢ at (get_or ct (suc (suc n)) []) m ×ᵢ at b m)
      (cond (eqb m (suc (suc n))) (S ×ᵢ at d (suc n) +ᵢ C ×ᵢ at r (suc n)) (dot o))

  unfoldable pub p_in : List (List Strip)
  unfolding row p_first p_second p_next
  p_in =
      let r0 : List Strip = row p_first 0 7 in
      let r1 : List Strip = row p_second 0 7 in
      let r2 : List Strip = row (p_next 0 r1 r0) 0 7 in
      let r3 : List Strip = row (p_next 1 r2 r1) 0 7 in
      let r4 : List Strip = row (p_next 2 r3 r2) 0 7 in
      let r5 : List Strip = row (p_next 3 r4 r3) 0 7 in
      let r6 : List Strip = row (p_next 4 r5 r4) 0 7 in
      r0 ∷ r1 ∷ r2 ∷ r3 ∷ r4 ∷ r5 ∷ r6 ∷ []

  -- from the table of p
  unfoldable pub dp_in : List (List Strip) → List (List Strip)
  unfolding row d_first d_second d_next
  dp_in p =
      let d0 : List Strip = row d_first 0 7 in
      let d1 : List Strip = row d_second 0 7 in
      let d2 : List Strip = row (d_next 0 (get_or p 1 []) d1 d0) 0 7 in
      let d3 : List Strip = row (d_next 1 (get_or p 2 []) d2 d1) 0 7 in
      let d4 : List Strip = row (d_next 2 (get_or p 3 []) d3 d2) 0 7 in
      let d5 : List Strip = row (d_next 3 (get_or p 4 []) d4 d3) 0 7 in
      let d6 : List Strip = row (d_next 4 (get_or p 5 []) d5 d4) 0 7 in
      d0 ∷ d1 ∷ d2 ∷ d3 ∷ d4 ∷ d5 ∷ d6 ∷ []

module _ (ct : List (List Strip)) (hct : Table ct (entry CT)) {C S : Strip} {c s : Float} (hc : On C c) (hs : On S s) where
  p_first_law : (m : ℕ) → On (p_first ct C S m) (p_of c s 0 m)
  unfolding p_first p_of
  p_first_law m = go (eqb m 0)
    where
      go : (a : Bool) → On (cond a (dot (decimal 10 1)) (dot o)) (cond a (decimal 10 1) o)
      go true = dot_on (decimal 10 1)
      go false = dot_on o

  p_second_law : (m : ℕ) → On (p_second ct C S m) (p_of c s 1 m)
  unfolding p_second p_of
  p_second_law m = go (eqb m 0) (eqb m 1)
    where
      go : (a b : Bool) → On (cond a C (cond b (S ×ᵢ dot (decimal 10 1)) (dot o))) (cond a c (cond b (s ⊗ decimal 10 1) o))
      go true b = hc
      go false true = product hs (dot_on (decimal 10 1))
      go false false = dot_on o

  p_next_law : (n : ℕ) (r q : List Strip) → Row r (p_of c s (suc n)) → Row q (p_of c s n) → (m : ℕ) → On (p_next ct C S n r q m) (p_of c s (suc (suc n)) m)
  unfolding p_next p_of
  p_next_law n r q hr hq m = go (leb m (suc n)) (eqb m (suc (suc n)))
    where
      go : (a b : Bool)
          → On
          (cond a (C ×ᵢ at r m -ᵢ at (get_or ct (suc (suc n)) []) m ×ᵢ at q m) (cond b (S ×ᵢ at r (suc n)) (dot o)))
          (cond a (c ⊗ p_of c s (suc n) m ⊖ entry CT (suc (suc n)) m ⊗ p_of c s n m) (cond b (s ⊗ p_of c s (suc n) (suc n)) o))
      go true b = difference (product hc (hr.each m)) (product ((hct.each (suc (suc n))).each m) (hq.each m))
      go false true = product hs (hr.each (suc n))
      go false false = dot_on o

  d_first_law : (m : ℕ) → On (d_first ct C S m) (dp_of c s 0 m)
  unfolding d_first dp_of
  d_first_law m = dot_on o

  d_second_law : (m : ℕ) → On (d_second ct C S m) (dp_of c s 1 m)
  unfolding d_second dp_of p_of
  d_second_law m = go (eqb m 0) (eqb m 1)
    where
      go : (a b : Bool) → On (cond a (neg_strip S) (cond b (S ×ᵢ dot o +ᵢ C ×ᵢ dot (decimal 10 1)) (dot o))) (cond a (neg s) (cond b (s ⊗ o ⊕ c ⊗ decimal 10 1) o))
      go true b = neg_on S hs
      go false true = sum (product hs (dot_on o)) (product hc (dot_on (decimal 10 1)))
      go false false = dot_on o

  d_next_law : (n : ℕ) (r d b : List Strip) → Row r (p_of c s (suc n)) → Row d (dp_of c s (suc n)) → Row b (dp_of c s n) → (m : ℕ) → On (d_next ct C S n r d b m) (dp_of c s (suc (suc n)) m)
  unfolding d_next dp_of
  d_next_law n r d b hr hd hb m = go (leb m (suc n)) (eqb m (suc (suc n)))
    where
      go : (a e : Bool)
          → On
          (cond a (C ×ᵢ at d m -ᵢ S ×ᵢ at r m -ᵢ at (get_or ct (suc (suc n)) []) m ×ᵢ at b m) (cond e (S ×ᵢ at d (suc n) +ᵢ C ×ᵢ at r (suc n)) (dot o)))
          (cond a (c ⊗ dp_of c s (suc n) m ⊖ s ⊗ p_of c s (suc n) m ⊖ entry CT (suc (suc n)) m ⊗ dp_of c s n m) (cond e (s ⊗ dp_of c s (suc n) (suc n) ⊕ c ⊗ p_of c s (suc n) (suc n)) o))
      go true e = difference (difference (product hc (hd.each m)) (product hs (hr.each m))) (product ((hct.each (suc (suc n))).each m) (hb.each m))
      go false true = sum (product hs (hd.each (suc n))) (product hc (hr.each (suc n)))
      go false false = dot_on o

  pub p_held : Table (p_in ct C S) (p_of c s)
  unfolding p_in
  p_held =
      let h0 = row_held (p_first ct C S) (p_of c s 0) p_first_law 7 in
      let h1 = row_held (p_second ct C S) (p_of c s 1) p_second_law 7 in
      let h2 = row_held _ (p_of c s 2) (p_next_law 0 _ _ h1 h0) 7 in
      let h3 = row_held _ (p_of c s 3) (p_next_law 1 _ _ h2 h1) 7 in
      let h4 = row_held _ (p_of c s 4) (p_next_law 2 _ _ h3 h2) 7 in
      let h5 = row_held _ (p_of c s 5) (p_next_law 3 _ _ h4 h3) 7 in
      let h6 = row_held _ (p_of c s 6) (p_next_law 4 _ _ h5 h4) 7 in
      table_held (p_of c s) h0 h1 h2 h3 h4 h5 h6

  pub dp_held : (p : List (List Strip)) → Table p (p_of c s) → Table (dp_in ct C S p) (dp_of c s)
  unfolding dp_in
  dp_held p h =
      let h0 = row_held (d_first ct C S) (dp_of c s 0) d_first_law 7 in
      let h1 = row_held (d_second ct C S) (dp_of c s 1) d_second_law 7 in
      let h2 = row_held _ (dp_of c s 2) (d_next_law 0 (get_or p 1 []) _ _ (h.each 1) h1 h0) 7 in
      let h3 = row_held _ (dp_of c s 3) (d_next_law 1 (get_or p 2 []) _ _ (h.each 2) h2 h1) 7 in
      let h4 = row_held _ (dp_of c s 4) (d_next_law 2 (get_or p 3 []) _ _ (h.each 3) h3 h2) 7 in
      let h5 = row_held _ (dp_of c s 5) (d_next_law 3 (get_or p 4 []) _ _ (h.each 4) h4 h3) 7 in
      let h6 = row_held _ (dp_of c s 6) (d_next_law 4 (get_or p 5 []) _ _ (h.each 5) h5 h4) 7 in
      table_held (dp_of c s) h0 h1 h2 h3 h4 h5 h6

-- s, the root of 1 - c²
unfoldable pub s_in : Strip → Strip
unfolding to_strip to_span rooted minus times point
s_in C = to_strip (rooted binary32 (minus binary32 (point (decimal 10 1)) (times binary32 (to_span C) (to_span C))))

pub s_held : {C : Strip} {c : Float} → On C c → On (s_in C) (sqrt_of binary32 (decimal 10 1 ⊖ c ⊗ c))
unfolding s_in
s_held {C} h =
    let c = to_span C in
    let k = span_in C h in
    to_on (rooted binary32 (minus binary32 (point (decimal 10 1)) (times binary32 c c)))
    (rooted_in binary32 (minus binary32 (point (decimal 10 1)) (times binary32 c c))
    (minus_in binary32 (point (decimal 10 1)) (times binary32 c c) (point_in (decimal 10 1)) (times_in binary32 c c k k)))

-- ---- the waves, from what holds the cosine u and the sine v of the longitude, and ts
module _ (g h : List (List Strip)) where
  unfoldable pub ts_at : List Strip → List Strip → ℕ → ℕ → Strip
  ts_at sp cp n m = at (get_or g n []) m ×ᵢ at cp m +ᵢ at (get_or h n []) m ×ᵢ at sp m

  unfoldable pub ts_row : List Strip → List Strip → ℕ → List Strip
  unfolding row ts_at
  ts_row sp cp n = row (ts_at sp cp n) 0 (n + 1)

  unfoldable pub ts_in : Strip → Strip → List (List Strip)
  unfolding ts_row plus_strip minus_strip times_strip dot
  ts_in u v =
      let s2 : Strip = v ×ᵢ u +ᵢ u ×ᵢ v in
      let c2 : Strip = u ×ᵢ u -ᵢ v ×ᵢ v in
      let s3 : Strip = v ×ᵢ c2 +ᵢ u ×ᵢ s2 in
      let c3 : Strip = u ×ᵢ c2 -ᵢ v ×ᵢ s2 in
      let s4 : Strip = v ×ᵢ c3 +ᵢ u ×ᵢ s3 in
      let c4 : Strip = u ×ᵢ c3 -ᵢ v ×ᵢ s3 in
      let s5 : Strip = v ×ᵢ c4 +ᵢ u ×ᵢ s4 in
      let c5 : Strip = u ×ᵢ c4 -ᵢ v ×ᵢ s4 in
      let s6 : Strip = v ×ᵢ c5 +ᵢ u ×ᵢ s5 in
      let c6 : Strip = u ×ᵢ c5 -ᵢ v ×ᵢ s5 in
      let sp : List Strip = dot o ∷ v ∷ s2 ∷ s3 ∷ s4 ∷ s5 ∷ s6 ∷ [] in
      let cp : List Strip = dot (decimal 10 1) ∷ u ∷ c2 ∷ c3 ∷ c4 ∷ c5 ∷ c6 ∷ [] in
      ts_row sp cp 0 ∷ ts_row sp cp 1 ∷ ts_row sp cp 2 ∷ ts_row sp cp 3 ∷ ts_row sp cp 4 ∷ ts_row sp cp 5 ∷ ts_row sp cp 6 ∷ []

module _ (f : ℕ → Float) {i0 i1 i2 i3 i4 i5 i6 : Strip} (h0 : On i0 (f 0)) (h1 : On i1 (f 1)) (h2 : On i2 (f 2)) (h3 : On i3 (f 3)) (h4 : On i4 (f 4)) (h5 : On i5 (f 5)) (h6 : On i6 (f 6)) where
  waves_held : Row (i0 ∷ i1 ∷ i2 ∷ i3 ∷ i4 ∷ i5 ∷ i6 ∷ []) f
  waves_held = record { each = seven_held (λ m i. On i (f m)) all (λ m. anywhere) h0 h1 h2 h3 h4 h5 h6 }

module _ (g h : List (List Strip)) (hg : Table g (entry G)) (hh : Table h (entry H)) (phi : Radians) {u v : Strip} (hu : On u (cos32_of phi.0)) (hv : On v (sin32_of phi.0)) where
  ts_row_law : (sp cp : List Strip) → Row sp (sp_of phi) → Row cp (cp_of phi) → (n : ℕ) → Row (ts_row g h sp cp n) (ts_of phi n)
  unfolding ts_row ts_at ts_of
  ts_row_law sp cp hs hc n = row_held _ (ts_of phi n) (λ m. sum (product ((hg.each n).each m) (hc.each m)) (product ((hh.each n).each m) (hs.each m))) (n + 1)

  s_next : (m : ℕ) {i j : Strip} → On i (sp_of phi (suc m)) → On j (cp_of phi (suc m)) → On (v ×ᵢ j +ᵢ u ×ᵢ i) (sp_of phi (suc (suc m)))
  unfolding sp_of
  s_next m h k = sum (product hv k) (product hu h)

  c_next : (m : ℕ) {i j : Strip} → On i (sp_of phi (suc m)) → On j (cp_of phi (suc m)) → On (u ×ᵢ j -ᵢ v ×ᵢ i) (cp_of phi (suc (suc m)))
  unfolding sp_of
  c_next m h k = difference (product hu k) (product hv h)

  first_held : On (dot o) (sp_of phi 0) × On v (sp_of phi 1) × On (dot (decimal 10 1)) (cp_of phi 0) × On u (cp_of phi 1)
  unfolding sp_of
  first_held = (dot_on o, hv, dot_on (decimal 10 1), hu)

  pub ts_held : Table (ts_in g h u v) (ts_of phi)
  unfolding ts_in
  ts_held =
      let s1 = first_held.1 in
      let c1 = first_held.3 in
      let s2 = s_next 0 s1 c1 in
      let c2 = c_next 0 s1 c1 in
      let s3 = s_next 1 s2 c2 in
      let c3 = c_next 1 s2 c2 in
      let s4 = s_next 2 s3 c3 in
      let c4 = c_next 2 s3 c3 in
      let s5 = s_next 3 s4 c4 in
      let c5 = c_next 3 s4 c4 in
      let s6 = s_next 4 s5 c5 in
      let c6 = c_next 4 s5 c5 in
      let sp = waves_held (sp_of phi) first_held.0 s1 s2 s3 s4 s5 s6 in
      let cp = waves_held (cp_of phi) first_held.2 c1 c2 c3 c4 c5 c6 in
      let t = ts_row_law _ _ sp cp in
      table_held (ts_of phi) (t 0) (t 1) (t 2) (t 3) (t 4) (t 5) (t 6)

-- ---- the sums
unfoldable pub sum_in : List (List Strip) → List (List Strip) → ℕ → Strip
unfolding loop turns plus_strip times_strip dot
sum_in p t n = loop 0 (n + 1) (λ m i. i +ᵢ at (get_or p n []) m ×ᵢ at (get_or t n []) m) (dot o)

-- what bv and bn weigh the sum of each degree with
unfoldable pub bv_weights : Float → List Strip
unfolding row dot
bv_weights ar = row (λ n. dot (aor_of ar n ⊗ of_int binary32 (pos (n + 1)))) 0 7

unfoldable pub bn_weights : Float → List Strip
unfolding row dot
bn_weights ar = row (λ n. dot (aor_of ar n)) 0 7

unfoldable pub bv_in : List Strip → List (List Strip) → List (List Strip) → Strip
unfolding sum_in
bv_in w p t = loop 1 7 (λ n i. i +ᵢ at w n ×ᵢ sum_in p t n) (dot o)

unfoldable pub bn_in : List Strip → List (List Strip) → List (List Strip) → Strip
unfolding sum_in
bn_in w d t = loop 1 7 (λ n i. i -ᵢ at w n ×ᵢ sum_in d t n) (dot o)

module _ (c s : Float) (phi : Radians) (ar : Float) (t : List (List Strip)) (ht : Table t (ts_of phi)) where
  module _ (p : List (List Strip)) (hp : Table p (p_of c s)) where
    sumr_held : (n : ℕ) → On (sum_in p t n) (sumr_of c s phi n)
    unfolding sum_in sumr_of
    sumr_held n = loop_held _ (λ m sumr. sumr ⊕ p_of c s n m ⊗ ts_of phi n m) (λ m i x h. sum h (product ((hp.each n).each m) ((ht.each n).each m))) 0 (n + 1) (dot o) o (dot_on o)

    bv_weights_law : Row (bv_weights ar) (λ n. aor_of ar n ⊗ of_int binary32 (pos (n + 1)))
    unfolding bv_weights
    bv_weights_law = row_held _ (λ n. aor_of ar n ⊗ of_int binary32 (pos (n + 1))) (λ n. dot_on (aor_of ar n ⊗ of_int binary32 (pos (n + 1)))) 7

    pub bv_held : On (bv_in (bv_weights ar) p t) (bv_of c s phi ar)
    unfolding bv_in bv_of
    bv_held = loop_held _ (λ n bv. bv ⊕ aor_of ar n ⊗ of_int binary32 (pos (n + 1)) ⊗ sumr_of c s phi n) (λ n i x h. sum h (product (bv_weights_law.each n) (sumr_held n))) 1 7 (dot o) o (dot_on o)

  module _ (d : List (List Strip)) (hd : Table d (dp_of c s)) where
    sumt_held : (n : ℕ) → On (sum_in d t n) (sumt_of c s phi n)
    unfolding sum_in sumt_of
    sumt_held n = loop_held _ (λ m sumt. sumt ⊕ dp_of c s n m ⊗ ts_of phi n m) (λ m i x h. sum h (product ((hd.each n).each m) ((ht.each n).each m))) 0 (n + 1) (dot o) o (dot_on o)

    bn_weights_law : Row (bn_weights ar) (aor_of ar)
    unfolding bn_weights
    bn_weights_law = row_held _ (aor_of ar) (λ n. dot_on (aor_of ar n)) 7

    pub bn_held : On (bn_in (bn_weights ar) d t) (bn_of c s phi ar)
    unfolding bn_in bn_of
    bn_held = loop_held _ (λ n bn. bn ⊖ aor_of ar n ⊗ sumt_of c s phi n) (λ n i x h. difference h (product (bn_weights_law.each n) (sumt_held n))) 1 7 (dot o) o (dot_on o)
