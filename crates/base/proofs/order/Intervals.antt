-- `Between lo hi x`, one rule for each operation, with a test of the ends that a computation
-- passes, and Horner's scheme over [0, X], whose ends are worked out by the same steps. Assumes
-- nothing.
use Rattle.std.proofs.Common.{◌≡◌, Bool, true, false, cond, not, ◌&&◌, T, List, [], ◌∷◌, sym, refl, subst, inl, inr, Float}
use lib.Ieee.{nan, inf, fin, Format, binary64, add, sub, mul, div, le, is_nan}
use lib.Ieee.Fits.{and_l, and_r}
use lib.Ieee.Scale.{finite}
use lib.Ieee.Positive.{positive, above, above_of_le}
use Rattle.base.specs.Number.{sqrt_of, narrow_of}
use Rattle.base.specs.Elementary.{horner}
use Rattle.base.proofs.order.Order.{nought, le_left, le_right, Between, wider, finite_between, between_finite, trans_le, refl_le, no_nan_finite, total_le}
use Rattle.base.proofs.order.Monotone.{add_mono, sub_mono, mul_right, mul_left, mul_anti, mul_mono, div_mono, narrow_mono}
use Rattle.base.proofs.roots.RootsOrder.{sqrt_mono}

-- ---- several tests as one
abbrev pub every : List Bool → Bool
every [] = true
every (b ∷ bs) = b && every bs

abbrev pub All : List Bool → Type 0
All [] = Unit
All (b ∷ bs) = T b × All bs

pub all : (bs : List Bool) → T (every bs) → All bs
all [] t = tt
all (b ∷ bs) t = (and_l b (every bs) t, all bs (and_r b (every bs) t))

above_positive : (y d : Float) → T (finite d) → T (above y) → T (le y d) → T (positive y)
above_positive nan d p q h = absurd q
above_positive (inf true) d p q h = absurd q
above_positive (inf false) d p q h = absurd (finite_between nought (inf false) d tt p (unfold le in tt) h)
above_positive (fin true m e) d p q h = absurd q
above_positive (fin false m e) d p q h = q

pub between_positive : (c d y : Float) → T (positive c) → T (finite d) → Between c d y → T (positive y)
between_positive c d y C D q = above_positive y d D (above_of_le c y C q.low) q.high

-- ---- the operations: x in [a, b], y in [c, d]
module _ (f : Format) {a b c d x y : Float} (lo hi : Float) where
  -- a result between L and H, the operation at two corners of finite ends; lo and hi hold both
  corners :
      (L H z : Float) → (T (finite a) → T (finite b) → T (finite c) → T (finite d) → T (finite x) → T (finite y) → T (le L z) × T (le z H)) →
      T (every (finite a ∷ finite b ∷ finite c ∷ finite d ∷ le lo L ∷ le H hi ∷ [])) → Between a b x → Between c d y → Between lo hi z
  corners L H z within t p q =
      let h = all (finite a ∷ finite b ∷ finite c ∷ finite d ∷ le lo L ∷ le H hi ∷ []) t in
      let A = h.0 in
      let B = h.1.0 in
      let C = h.1.1.0 in
      let D = h.1.1.1.0 in
      let w = within A B C D (between_finite A B p) (between_finite C D q) in
      record { low = trans_le lo L z h.1.1.1.1.0 w.0; high = trans_le z H hi w.1 h.1.1.1.1.1.0 }

  pub add_in : T (every (finite a ∷ finite b ∷ finite c ∷ finite d ∷ le lo (add f a c) ∷ le (add f b d) hi ∷ [])) → Between a b x → Between c d y → Between lo hi (add f x y)
  add_in t p q =
      corners (add f a c) (add f b d) (add f x y) (λ A B C D X Y. (add_mono f a x c y A X C Y p.low q.low, add_mono f x b y d X B Y D p.high q.high)) t p q

  pub sub_in : T (every (finite a ∷ finite b ∷ finite c ∷ finite d ∷ le lo (sub f a d) ∷ le (sub f b c) hi ∷ [])) → Between a b x → Between c d y → Between lo hi (sub f x y)
  sub_in t p q =
      corners (sub f a d) (sub f b c) (sub f x y) (λ A B C D X Y. (sub_mono f a x d y A X D Y p.low q.high, sub_mono f x b y c X B Y C p.high q.low)) t p q

  -- both not below zero
  pub mul_in : T (every (finite b ∷ finite d ∷ le nought a ∷ le nought c ∷ le lo (mul f a c) ∷ le (mul f b d) hi ∷ [])) → Between a b x → Between c d y → Between lo hi (mul f x y)
  mul_in t p q =
      let h = all (finite b ∷ finite d ∷ le nought a ∷ le nought c ∷ le lo (mul f a c) ∷ le (mul f b d) hi ∷ []) t in
      let B = h.0 in
      let D = h.1.0 in
      let u = h.1.1.0 in
      let v = h.1.1.1.0 in
      let i : T (le nought x) = trans_le nought a x u p.low in
      let j : T (le nought y) = trans_le nought c y v q.low in
      record {
        low = trans_le lo (mul f a c) (mul f x y) h.1.1.1.1.0 (mul_mono f a x c y (finite_between nought x b tt B i p.high) (finite_between nought y d tt D j q.high) u v p.low q.low);
        high = trans_le (mul f x y) (mul f b d) hi (mul_mono f x b y d B D i j p.high q.high) h.1.1.1.1.1.0;
      }

  -- x on both sides of zero, y not below it
  pub mul_about : T (every (finite a ∷ finite b ∷ finite d ∷ le a nought ∷ le nought b ∷ le nought c ∷ le lo (mul f a d) ∷ le (mul f b d) hi ∷ [])) → Between a b x → Between c d y → Between lo hi (mul f x y)
  mul_about t p q =
      let h = all (finite a ∷ finite b ∷ finite d ∷ le a nought ∷ le nought b ∷ le nought c ∷ le lo (mul f a d) ∷ le (mul f b d) hi ∷ []) t in
      let A = h.0 in
      let B = h.1.0 in
      let D = h.1.1.0 in
      let X = between_finite A B p in
      let j : T (le nought y) = trans_le nought c y h.1.1.1.1.1.0 q.low in
      let Y = finite_between nought y d tt D j q.high in
      record {
        low = trans_le lo (mul f a d) (mul f x y) h.1.1.1.1.1.1.0 (trans_le (mul f a d) (mul f a y) (mul f x y) (mul_anti f a y d A Y D h.1.1.1.0 q.high) (mul_right f a x y A X Y j p.low));
        high = trans_le (mul f x y) (mul f b d) hi (trans_le (mul f x y) (mul f b y) (mul f b d) (mul_right f x b y X B Y j p.high) (mul_left f b y d B Y D h.1.1.1.1.0 q.high)) h.1.1.1.1.1.1.1.0;
      }

  -- x not below zero, y above it
  pub div_in : T (every (finite b ∷ finite d ∷ positive c ∷ le nought a ∷ le lo (div f a d) ∷ le (div f b c) hi ∷ [])) → Between a b x → Between c d y → Between lo hi (div f x y)
  div_in t p q =
      let h = all (finite b ∷ finite d ∷ positive c ∷ le nought a ∷ le lo (div f a d) ∷ le (div f b c) hi ∷ []) t in
      let B = h.0 in
      let C = h.1.1.0 in
      let u = h.1.1.1.0 in
      let i : T (le nought x) = trans_le nought a x u p.low in
      let X = finite_between nought x b tt B i p.high in
      let Y = between_positive c d y C h.1.0 q in
      record {
        low = trans_le lo (div f a d) (div f x y) h.1.1.1.1.0 (div_mono f a x d y X Y u p.low q.high);
        high = trans_le (div f x y) (div f b c) hi (div_mono f x b y c B C i p.high q.low) h.1.1.1.1.1.0;
      }

module _ {a b x : Float} (lo hi : Float) where
  pub sqrt_in : (f : Format) → T (every (le nought a ∷ le lo (sqrt_of f a) ∷ le (sqrt_of f b) hi ∷ [])) → Between a b x → Between lo hi (sqrt_of f x)
  sqrt_in f t p =
      let h = all (le nought a ∷ le lo (sqrt_of f a) ∷ le (sqrt_of f b) hi ∷ []) t in
      record {
        low = trans_le lo (sqrt_of f a) (sqrt_of f x) h.1.0 (sqrt_mono f a x h.0 p.low);
        high = trans_le (sqrt_of f x) (sqrt_of f b) hi (sqrt_mono f x b (trans_le nought a x h.0 p.low) p.high) h.1.1.0;
      }

  pub narrow_in : T (every (le lo (narrow_of a) ∷ le (narrow_of b) hi ∷ [])) → Between a b x → Between lo hi (narrow_of x)
  narrow_in t p =
      let h = all (le lo (narrow_of a) ∷ le (narrow_of b) hi ∷ []) t in
      record {
        low = trans_le lo (narrow_of a) (narrow_of x) h.0 (narrow_mono a x p.low);
        high = trans_le (narrow_of x) (narrow_of b) hi (narrow_mono x b p.high) h.1.0;
      }

-- ---- Horner's scheme in binary64 for x in [0, X]: the ends, as far apart as the steps leave them
abbrev least : Float → Float
least l = cond (le l nought) l nought

abbrev most : Float → Float
most h = cond (le nought h) h nought

unfoldable pub low_of : List Float → Float → Float
low_of [] X = nought
low_of (c ∷ []) X = c
low_of (c ∷ (d ∷ cs)) X = add binary64 (mul binary64 (least (low_of (d ∷ cs) X)) X) c

unfoldable pub high_of : List Float → Float → Float
high_of [] X = nought
high_of (c ∷ []) X = c
high_of (c ∷ (d ∷ cs)) X = add binary64 (mul binary64 (most (high_of (d ∷ cs) X)) X) c

-- nothing on the way is infinite
unfoldable pub calm : List Float → Float → Bool
unfolding low_of high_of
calm [] X = true
calm (c ∷ []) X = finite c
calm (c ∷ (d ∷ cs)) X =
    every (calm (d ∷ cs) X ∷ finite c ∷ finite (least (low_of (d ∷ cs) X)) ∷ finite (most (high_of (d ∷ cs) X)) ∷ finite (mul binary64 (least (low_of (d ∷ cs) X)) X) ∷ finite (mul binary64 (most (high_of (d ∷ cs) X)) X) ∷ [])

pub exactly : (c : Float) → T (finite c) → Between c c c
exactly c p = record { low = refl_le c (no_nan_finite c p); high = refl_le c (no_nan_finite c p) }

least_is : (l : Float) → T (not (is_nan l)) → Between (least l) nought (least l) × T (le (least l) l)
least_is l p = go (le l nought) refl
  where
    go : (b : Bool) → le l nought ≡ b → Between (cond b l nought) nought (cond b l nought) × T (le (cond b l nought) l)
    go true e = (record { low = refl_le l p; high = subst T (sym e) tt }, refl_le l p)
    go false e = (exactly nought tt, elim (total_le l nought p (no_nan_finite nought tt)) [ inl u ↦ absurd (subst T e u) | inr u ↦ u ])

most_is : (h : Float) → T (not (is_nan h)) → Between nought (most h) (most h) × T (le h (most h))
most_is h p = go (le nought h) refl
  where
    go : (b : Bool) → le nought h ≡ b → Between nought (cond b h nought) (cond b h nought) × T (le h (cond b h nought))
    go true e = (record { low = subst T (sym e) tt; high = refl_le h p }, refl_le h p)
    go false e = (exactly nought tt, elim (total_le nought h (no_nan_finite nought tt) p) [ inl u ↦ absurd (subst T e u) | inr u ↦ u ])

step : {l h v X x : Float} (c : Float) → T (finite X) → T (every (finite c ∷ finite (least l) ∷ finite (most h) ∷ finite (mul binary64 (least l) X) ∷ finite (mul binary64 (most h) X) ∷ [])) → Between nought X x → Between l h v
    → Between (add binary64 (mul binary64 (least l) X) c) (add binary64 (mul binary64 (most h) X) c) (add binary64 (mul binary64 v x) c)
step {l} {h} {v} {X} {x} c p t b k =
    let w = all (finite c ∷ finite (least l) ∷ finite (most h) ∷ finite (mul binary64 (least l) X) ∷ finite (mul binary64 (most h) X) ∷ []) t in
    let L = w.1.0 in
    let H = w.1.1.0 in
    let i = least_is l (le_left l v k.low) in
    let j = most_is h (le_right v h k.high) in
    let e : Between (least l) (most h) v = wider (least l) (most h) i.1 j.1 k in
    let Z = between_finite L H e in
    let x0 = b.low in
    let Y = finite_between nought x X tt p x0 b.high in
    let lo : T (le (mul binary64 (least l) X) (mul binary64 v x)) = trans_le (mul binary64 (least l) X) (mul binary64 (least l) x) (mul binary64 v x) (mul_anti binary64 (least l) x X L Y p i.0.high b.high) (mul_right binary64 (least l) v x L Z Y x0 e.low) in
    let hi : T (le (mul binary64 v x) (mul binary64 (most h) X)) = trans_le (mul binary64 v x) (mul binary64 (most h) x) (mul binary64 (most h) X) (mul_right binary64 v (most h) x Z H Y x0 e.high) (mul_left binary64 (most h) x X H Y p j.0.low b.high) in
    let P = w.1.1.1.0 in
    let Q = w.1.1.1.1.0 in
    let W = finite_between (mul binary64 (least l) X) (mul binary64 v x) (mul binary64 (most h) X) P Q lo hi in
    let o = refl_le c (no_nan_finite c w.0) in
    record { low = add_mono binary64 (mul binary64 (least l) X) (mul binary64 v x) c c P W w.0 w.0 lo o; high = add_mono binary64 (mul binary64 v x) (mul binary64 (most h) X) c c W Q w.0 w.0 hi o }

pub horner_in_law : (t : List Float) (X x : Float) → T (finite X) → T (calm t X) → Between nought X x → Between (low_of t X) (high_of t X) (horner t x)
unfolding low_of high_of calm horner
horner_in_law [] X x p k b = exactly nought tt
horner_in_law (c ∷ []) X x p k b = exactly c k
horner_in_law (c ∷ (d ∷ cs)) X x p k b =
    let q = every (finite c ∷ finite (least (low_of (d ∷ cs) X)) ∷ finite (most (high_of (d ∷ cs) X)) ∷ finite (mul binary64 (least (low_of (d ∷ cs) X)) X) ∷ finite (mul binary64 (most (high_of (d ∷ cs) X)) X) ∷ []) in
    step c p (and_r (calm (d ∷ cs) X) q k) b (horner_in_law (d ∷ cs) X x p (and_l (calm (d ∷ cs) X) q k) b)
