-- The sine and the cosine of document 01's steps are at most 9/8 in size. What the quarter turns
-- leave is at most 7/4. There the cosine's series is at most 1, and so is the sine's without its
-- factor r; beyond 9/8 that factor is made good by r² itself, piece by piece. Assumes nothing.
use Rattle.std.proofs.Common.{◌≡◌, refl, sym, subst, inl, inr, Bool, true, false, not, List, [], ◌∷◌, map, ℕ, zero, suc, ◌+◌, ◌*◌, T, pos, negsuc, Float}
use lib.Ieee.{fin, binary64, round, add, mul, neg, le, is_nan}
use lib.Ieee.Bits.{is_true}
use lib.Ieee.Scale.{finite}
use Rattle.base.specs.Double.{◌⊕◌, ◌⊗◌, fraction}
use Rattle.base.specs.Number.{abs_of, narrow_of}
use Rattle.base.specs.Elementary.{turns_of, reduced_of, quarter_of, sin_terms, cos_terms, sin_series, cos_series, sin_at, cos_at, sin_of, cos_of, sin32_of, cos32_of, factorial, horner, alternating, up_from}
use Rattle.base.proofs.verdicts.Picks.{cond_true}
use Rattle.base.proofs.order.Order.{nought, Between, wider, finite_between, trans_le, refl_le, total_le, no_nan_finite, le_right, abs_no_nan, abs_not_below, abs→le, le→abs, abs_neg, neg_not_below}
use Rattle.base.proofs.order.Monotone.{add_mono, mul_right, mul_anti, mul_mono, mul_size, abs_mul, square_not_below, abs_finite, narrow_size}
use Rattle.base.proofs.steps.Reduction.{thousand, seven, reduced_in_law}
use Rattle.base.proofs.order.Intervals.{every, all, low_of, high_of, calm, horner_in_law}
use Rattle.results.proofs.numbers.Sizes.{Sized}

-- 9/8
abbrev pub nine : Float
nine = fin false 9 (negsuc 2)

abbrev one : Float
one = fin false 1 (pos 0)

abbrev wide : Float
wide = fin false 49 (negsuc 3)

-- ---- r², for an r that is at most hi in size
square_in : (hi X r : Float) → T (finite hi) → T (le (hi ⊗ hi) X) → T (le (abs_of r) hi) → Between nought X (r ⊗ r)
square_in hi X r p t h =
    record {
      low = square_not_below binary64 r (abs_finite r hi p h);
      high = trans_le (r ⊗ r) (hi ⊗ hi) X (abs→le (r ⊗ r) (hi ⊗ hi) (mul_size binary64 r r hi hi p p h h)) t;
    }

own_size : (z : Float) → T (le nought z) → T (le (abs_of z) z)
own_size z h = le→abs z z (trans_le (neg z) nought z (neg_not_below z h) h) (refl_le z (le_right nought z h))

-- and at least lo
square_from : (lo hi A r : Float) → T (finite hi) → T (le nought lo) → T (le A (lo ⊗ lo)) → T (le lo (abs_of r)) → T (le (abs_of r) hi) → T (le A (r ⊗ r))
square_from lo hi A r p n t l h =
    let R = abs_of r in
    let f : T (finite R) = finite_between nought R hi tt p (abs_not_below r (abs_no_nan r hi h)) h in
    let a : T (le (lo ⊗ lo) (R ⊗ R)) = mul_mono binary64 lo R lo R f f n n l l in
    let b : T (le (R ⊗ R) (r ⊗ r)) = subst (λ (z : Float). T (le z (r ⊗ r))) (abs_mul binary64 r r) (own_size (r ⊗ r) (square_not_below binary64 r (abs_finite r hi p h))) in
    trans_le A (lo ⊗ lo) (r ⊗ r) t (trans_le (lo ⊗ lo) (R ⊗ R) (r ⊗ r) a b)

-- ---- the series
sin_ends : T (every (calm sin_terms wide ∷ le nought (low_of sin_terms wide) ∷ le (high_of sin_terms wide) one ∷ []))
unfolding calm sin_terms up_from alternating factorial round add mul le low_of high_of
sin_ends = tt

cos_ends : T (every (calm cos_terms wide ∷ le (neg one) (low_of cos_terms wide) ∷ le (high_of cos_terms wide) one ∷ []))
unfolding calm cos_terms up_from alternating factorial round add mul le neg low_of high_of
cos_ends = tt

seven_square : T (le (seven ⊗ seven) wide)
unfolding mul le
seven_square = tt

abbrev Seven : Float → Type 0
Seven r = T (le (abs_of r) seven)

abbrev Small : Float → Type 0
Small x = T (le (abs_of x) nine)

horner_sin : (r : Float) → Seven r → Between nought one (horner sin_terms (r ⊗ r))
horner_sin r h =
    let t = all (calm sin_terms wide ∷ le nought (low_of sin_terms wide) ∷ le (high_of sin_terms wide) one ∷ []) sin_ends in
    wider nought one t.1.0 t.1.1.0 (horner_in_law sin_terms wide (r ⊗ r) tt t.0 (square_in seven wide r tt seven_square h))

cos_small : (r : Float) → Seven r → Small (cos_series r)
unfolding cos_series neg le
cos_small r h =
    let t = all (calm cos_terms wide ∷ le (neg one) (low_of cos_terms wide) ∷ le (high_of cos_terms wide) one ∷ []) cos_ends in
    let b : Between (neg nine) nine (horner cos_terms (r ⊗ r)) = wider (neg nine) nine tt tt (wider (neg one) one t.1.0 t.1.1.0 (horner_in_law cos_terms wide (r ⊗ r) tt t.0 (square_in seven wide r tt seven_square h))) in
    le→abs (horner cos_terms (r ⊗ r)) nine b.low b.high

-- r times what is at most V
sin_by : (hi top r : Float) → T (finite hi) → T (finite top) → T (le (hi ⊗ top) nine) → T (le (abs_of r) hi) → Between nought top (horner sin_terms (r ⊗ r)) → Small (sin_series r)
unfolding sin_series
sin_by hi top r p q t h b =
    let v = horner sin_terms (r ⊗ r) in
    let s : T (le (abs_of v) top) = trans_le (abs_of v) v top (own_size v b.low) b.high in
    trans_le (abs_of (r ⊗ v)) (hi ⊗ top) nine (mul_size binary64 r v hi top p q h s) t

-- ---- beyond 9/8: the series is 1 and r² times the rest of it, which is below zero
abbrev rest : List Float
rest = map (λ (k : ℕ). alternating k (factorial (2 * k + 1))) (up_from 1 7)

first_is : (x : Float) → horner sin_terms x ≡ horner rest x ⊗ x ⊕ one
unfolding horner sin_terms up_from alternating factorial round
first_is x = refl

-- |r| from lo to hi, r² from A to X
module _ (lo hi A X : Float) where
  abbrev least : Float
  least = low_of rest X

  abbrev most : Float
  most = high_of rest X

  abbrev peak : Float
  peak = most ⊗ A ⊕ one

  abbrev tests : List Bool
  tests =
      finite hi
      ∷ le nought lo
      ∷ le (hi ⊗ hi) X
      ∷ le A (lo ⊗ lo)
      ∷ finite X
      ∷ finite A
      ∷ calm rest X
      ∷ finite least
      ∷ le least nought
      ∷ finite most
      ∷ le most nought
      ∷ finite (least ⊗ X)
      ∷ finite (most ⊗ A)
      ∷ finite peak
      ∷ le (hi ⊗ peak) nine
      ∷ []

  piece : T (every tests) → (r : Float) → Seven r → T (le lo (abs_of r)) → T (le (abs_of r) hi) → Small (sin_series r)
  piece t r s l h =
      let w = all tests t in
      let H = w.0 in
      let w4 = w.1.1.1.1 in
      let w8 = w4.1.1.1.1 in
      let x = r ⊗ r in
      let b = square_in hi X r H w.1.1.0 h in
      let a : T (le A x) = square_from lo hi A r H w.1.0 w.1.1.1.0 l h in
      let px = finite_between nought x X tt w4.0 b.low b.high in
      let pl = w4.1.1.1.0 in
      let pm = w8.1.0 in
      let v = horner rest x in
      let k = horner_in_law rest X x w4.0 w4.1.1.0 b in
      let pv = finite_between least v most pl pm k.low k.high in
      let low : T (le (least ⊗ X) (v ⊗ x)) = trans_le (least ⊗ X) (least ⊗ x) (v ⊗ x) (mul_anti binary64 least x X pl px w4.0 w8.0 b.high) (mul_right binary64 least v x pl pv px b.low k.low) in
      let high : T (le (v ⊗ x) (most ⊗ A)) = trans_le (v ⊗ x) (most ⊗ x) (most ⊗ A) (mul_right binary64 v most x pv pm px b.low k.high) (mul_anti binary64 most A x pm w4.1.0 px w8.1.1.0 a) in
      let pp = w8.1.1.1.1.0 in
      let q = finite_between (least ⊗ X) (v ⊗ x) (most ⊗ A) w8.1.1.1.0 pp low high in
      let up : T (le (v ⊗ x ⊕ one) peak) = add_mono binary64 (v ⊗ x) (most ⊗ A) one one q pp tt tt high (refl_le one (no_nan_finite one tt)) in
      let c : Between nought peak (horner sin_terms x) = record { low = (horner_sin r s).low; high = subst (λ (z : Float). T (le z peak)) (sym (first_is x)) up } in
      sin_by hi peak r H w8.1.1.1.1.1.0 w8.1.1.1.1.1.1.0 h c

first_piece : T (every (tests nine (fin false 11 (negsuc 2)) (fin false 81 (negsuc 5)) (fin false 121 (negsuc 5))))
unfolding calm up_from alternating factorial round add mul le low_of high_of
first_piece = tt

second_piece : T (every (tests (fin false 11 (negsuc 2)) (fin false 3 (negsuc 0)) (fin false 121 (negsuc 5)) (fin false 9 (negsuc 1))))
unfolding calm up_from alternating factorial round add mul le low_of high_of
second_piece = tt

third_piece : T (every (tests (fin false 3 (negsuc 0)) (fin false 13 (negsuc 2)) (fin false 9 (negsuc 1)) (fin false 169 (negsuc 5))))
unfolding calm up_from alternating factorial round add mul le low_of high_of
third_piece = tt

last_piece : T (every (tests (fin false 13 (negsuc 2)) seven (fin false 169 (negsuc 5)) wide))
unfolding calm up_from alternating factorial round add mul le low_of high_of
last_piece = tt

nine_one : T (le (nine ⊗ one) nine)
unfolding mul le
nine_one = tt

sin_small : (r : Float) → Seven r → Small (sin_series r)
sin_small r s = up_to nine tt (λ h. sin_by nine one r tt tt nine_one h (horner_sin r s)) (λ l.
    up_to (fin false 11 (negsuc 2)) tt (piece nine (fin false 11 (negsuc 2)) (fin false 81 (negsuc 5)) (fin false 121 (negsuc 5)) first_piece r s l) (λ m.
    up_to (fin false 3 (negsuc 0)) tt (piece (fin false 11 (negsuc 2)) (fin false 3 (negsuc 0)) (fin false 121 (negsuc 5)) (fin false 9 (negsuc 1)) second_piece r s m) (λ n.
    up_to (fin false 13 (negsuc 2)) tt (piece (fin false 3 (negsuc 0)) (fin false 13 (negsuc 2)) (fin false 9 (negsuc 1)) (fin false 169 (negsuc 5)) third_piece r s n) (λ o.
    piece (fin false 13 (negsuc 2)) seven (fin false 169 (negsuc 5)) wide last_piece r s o s))))
  where
    known : T (not (is_nan (abs_of r)))
    known = le_right nought (abs_of r) (abs_not_below r (abs_no_nan r seven s))

    up_to : (b : Float) → T (finite b) → (T (le (abs_of r) b) → Small (sin_series r)) → (T (le b (abs_of r)) → Small (sin_series r)) → Small (sin_series r)
    up_to b f p q = elim (total_le (abs_of r) b known (no_nan_finite b f)) [ inl h ↦ p h | inr h ↦ q h ]

-- ---- by the quarter turns off
neg_small : (x : Float) → Small x → Small (neg x)
neg_small x h = subst (λ (z : Float). T (le z nine)) (sym (abs_neg x)) h

sin_at_law : (q : ℕ) (r : Float) → Seven r → Small (sin_at q r)
unfolding sin_at
sin_at_law zero r s = sin_small r s
sin_at_law (suc zero) r s = cos_small r s
sin_at_law (suc (suc zero)) r s = neg_small (sin_series r) (sin_small r s)
sin_at_law (suc (suc (suc q))) r s = neg_small (cos_series r) (cos_small r s)

cos_at_law : (q : ℕ) (r : Float) → Seven r → Small (cos_at q r)
unfolding cos_at
cos_at_law zero r s = cos_small r s
cos_at_law (suc zero) r s = neg_small (sin_series r) (sin_small r s)
cos_at_law (suc (suc zero)) r s = neg_small (cos_series r) (cos_small r s)
cos_at_law (suc (suc (suc q))) r s = sin_small r s

reduced_seven : (v : Float) → T (le (abs_of v) thousand) → Seven (reduced_of v (turns_of v))
reduced_seven v h = let b = reduced_in_law v h in le→abs (reduced_of v (turns_of v)) seven b.low b.high

sin_is : (v : Float) → le (abs_of v) thousand ≡ true → sin_of v ≡ sin_at (quarter_of (turns_of v)) (reduced_of v (turns_of v))
unfolding sin_of fraction round
sin_is v e = cond_true _ _ e

cos_is : (v : Float) → le (abs_of v) thousand ≡ true → cos_of v ≡ cos_at (quarter_of (turns_of v)) (reduced_of v (turns_of v))
unfolding cos_of fraction round
cos_is v e = cond_true _ _ e

-- ---- the laws, of an angle that is at most a, which is at most 1000
module _ {a v : Float} (t : T (le a thousand)) (h : Sized a v) where
  near : T (le (abs_of v) thousand)
  near = trans_le (abs_of v) a thousand h.size t

  pub sin_sized : Sized nine (sin_of v)
  sin_sized = record { size = subst Small (sym (sin_is v (is_true (le (abs_of v) thousand) near))) (sin_at_law (quarter_of (turns_of v)) (reduced_of v (turns_of v)) (reduced_seven v near)) }

  pub cos_sized : Sized nine (cos_of v)
  cos_sized = record { size = subst Small (sym (cos_is v (is_true (le (abs_of v) thousand) near))) (cos_at_law (quarter_of (turns_of v)) (reduced_of v (turns_of v)) (reduced_seven v near)) }

  pub sin32_sized : Sized nine (sin32_of v)
  unfolding sin32_of narrow_of round
  sin32_sized = record { size = narrow_size (sin_of v) nine sin_sized.size }

  pub cos32_sized : Sized nine (cos32_of v)
  unfolding cos32_of narrow_of round
  cos32_sized = record { size = narrow_size (cos_of v) nine cos_sized.size }
