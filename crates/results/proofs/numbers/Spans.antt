-- Intervals to compute with: [lo, hi] with finite ends, or nothing known. Each operation takes
-- intervals that hold x and y to one that holds the result, since rounding keeps order. Assumes
-- nothing.
use Rattle.std.proofs.Common.{◌≡◌, refl, sym, subst, inl, inr, Bool, true, false, not, ◌&&◌, cond, List, [], ◌∷◌, ℕ, zero, suc, ◌<◌, mul-pos, arith, T, get_or, set, Float}
use lib.Ieee.{nan, Format, binary64, add, sub, mul, neg, le, is_nan}
use lib.Ieee.Fits.{and_l, and_r}
use lib.Ieee.Scale.{finite}
use lib.Ieee.Positive.{den_pos}
use Rattle.base.specs.Number.{sqrt_of, narrow_of}
use Rattle.base.specs.Elementary.{horner}
use Rattle.base.proofs.order.Order.{nought, Between, wider, between_finite, le_left, trans_le, refl_le, total_le, no_nan_finite, neg_le, neg_finite}
use Rattle.base.proofs.order.Monotone.{Rounds, rounds_mono, mul_rounds, add_mono, sub_mono, mul_left, mul_anti, mul_turn, narrow_mono}
use Rattle.base.proofs.order.Intervals.{exactly}
use Rattle.base.proofs.roots.RootsOrder.{sqrt_mono}

pub data Span : Type 0 where
  any : Span
  span : Float → Float → Span

pub record Held (lo hi x : Float) : Type 0 where
  pub from : T (finite lo)
  pub to : T (finite hi)
  pub between : Between lo hi x

abbrev pub Within : Span → Float → Type 0
Within any x = Unit
Within (span lo hi) x = Held lo hi x

-- x is in it
pub record In (i : Span) (x : Float) : Type 0 where
  pub is : Within i x

pub unknown : {x : Float} → In any x
unknown = record { is = tt }

-- [lo, hi] if both ends are finite
unfoldable pub made : Float → Float → Span
made lo hi = cond (finite lo && finite hi) (span lo hi) any

made_in : (lo hi x : Float) → Between lo hi x → In (made lo hi) x
unfolding made
made_in lo hi x b = go (finite lo) (finite hi) refl refl
  where
    go : (p q : Bool) → finite lo ≡ p → finite hi ≡ q → In (cond (p && q) (span lo hi) any) x
    go false q u v = unknown
    go true false u v = unknown
    go true true u v = record { is = record { from = subst T (sym u) tt; to = subst T (sym v) tt; between = b } }

held_finite : {lo hi x : Float} → In (span lo hi) x → T (finite x)
held_finite h = between_finite h.is.from h.is.to h.is.between

-- one number
unfoldable pub point : Float → Span
point c = cond (finite c) (span c c) any

pub point_in : (c : Float) → In (point c) c
unfolding point
point_in c = go (finite c) refl
  where
    go : (p : Bool) → finite c ≡ p → In (cond p (span c c) any) c
    go false e = unknown
    go true e = let p : T (finite c) = subst T (sym e) tt in record { is = record { from = p; to = p; between = exactly c p } }

-- ---- sums, differences, turned signs
unfoldable pub plus : Format → Span → Span → Span
unfolding made
plus f any j = any
plus f (span a b) any = any
plus f (span a b) (span c d) = made (add f a c) (add f b d)

unfoldable pub minus : Format → Span → Span → Span
unfolding made
minus f any j = any
minus f (span a b) any = any
minus f (span a b) (span c d) = made (sub f a d) (sub f b c)

unfoldable pub negated : Span → Span
negated any = any
negated (span a b) = span (neg b) (neg a)

pub plus_in : (f : Format) (i j : Span) {x y : Float} → In i x → In j y → In (plus f i j) (add f x y)
unfolding plus
plus_in f any j h k = unknown
plus_in f (span a b) any h k = unknown
plus_in f (span a b) (span c d) {x} {y} h k =
    let X = held_finite h in
    let Y = held_finite k in
    made_in (add f a c) (add f b d) (add f x y) (record { low = add_mono f a x c y h.is.from X k.is.from Y h.is.between.low k.is.between.low; high = add_mono f x b y d X h.is.to Y k.is.to h.is.between.high k.is.between.high })

pub minus_in : (f : Format) (i j : Span) {x y : Float} → In i x → In j y → In (minus f i j) (sub f x y)
unfolding minus
minus_in f any j h k = unknown
minus_in f (span a b) any h k = unknown
minus_in f (span a b) (span c d) {x} {y} h k =
    let X = held_finite h in
    let Y = held_finite k in
    made_in (sub f a d) (sub f b c) (sub f x y) (record { low = sub_mono f a x d y h.is.from X k.is.to Y h.is.between.low k.is.between.high; high = sub_mono f x b y c X h.is.to Y k.is.from h.is.between.high k.is.between.low })

pub negated_in : (i : Span) {x : Float} → In i x → In (negated i) (neg x)
unfolding negated
negated_in any h = unknown
negated_in (span a b) {x} h = record { is = record { from = neg_finite b h.is.to; to = neg_finite a h.is.from; between = record { low = neg_le x b h.is.between.high; high = neg_le a x h.is.between.low } } }

-- ---- products: between the least and the greatest of the ends' four
unfoldable pub lesser : Float → Float → Float
lesser a b = cond (le a b) a b

unfoldable pub greater : Float → Float → Float
greater a b = cond (le a b) b a

abbrev pub Number : Float → Type 0
Number x = T (not (is_nan x))

record Least (l a b : Float) : Type 0 where
  pub number : Number l
  pub left : T (le l a)
  pub right : T (le l b)

record Greatest (g a b : Float) : Type 0 where
  pub number : Number g
  pub left : T (le a g)
  pub right : T (le b g)

other : (a b : Float) → Number a → Number b → le a b ≡ false → T (le b a)
other a b p q e = elim (total_le a b p q) [ inl h ↦ absurd (subst T e h) | inr h ↦ h ]

least : (a b : Float) → Number a → Number b → Least (lesser a b) a b
unfolding lesser
least a b p q = go (le a b) refl
  where
    go : (c : Bool) → le a b ≡ c → Least (cond c a b) a b
    go true e = record { number = p; left = refl_le a p; right = subst T (sym e) tt }
    go false e = record { number = q; left = other a b p q e; right = refl_le b q }

greatest : (a b : Float) → Number a → Number b → Greatest (greater a b) a b
unfolding greater
greatest a b p q = go (le a b) refl
  where
    go : (c : Bool) → le a b ≡ c → Greatest (cond c b a) a b
    go true e = record { number = q; left = subst T (sym e) tt; right = refl_le b q }
    go false e = record { number = p; left = refl_le a p; right = other a b p q e }

unfoldable pub hull : Float → Float → Float → Float → Span
unfolding made lesser greater
hull p q u v = made (lesser (lesser p q) (lesser u v)) (greater (greater p q) (greater u v))

record Hull (lo hi p q u v : Float) : Type 0 where
  pub first : Between lo hi p
  pub second : Between lo hi q
  pub third : Between lo hi u
  pub fourth : Between lo hi v

hull_is : (p q u v : Float) → Number p → Number q → Number u → Number v → Hull (lesser (lesser p q) (lesser u v)) (greater (greater p q) (greater u v)) p q u v
hull_is p q u v P Q U W =
    let l = least p q P Q in
    let m = least u v U W in
    let k = least (lesser p q) (lesser u v) l.number m.number in
    let g = greatest p q P Q in
    let h = greatest u v U W in
    let i = greatest (greater p q) (greater u v) g.number h.number in
    let lo = lesser (lesser p q) (lesser u v) in
    let hi = greater (greater p q) (greater u v) in
    record {
      first = record { low = trans_le lo (lesser p q) p k.left l.left; high = trans_le p (greater p q) hi g.left i.left };
      second = record { low = trans_le lo (lesser p q) q k.left l.right; high = trans_le q (greater p q) hi g.right i.left };
      third = record { low = trans_le lo (lesser u v) u k.right m.left; high = trans_le u (greater u v) hi h.left i.right };
      fourth = record { low = trans_le lo (lesser u v) v k.right m.right; high = trans_le v (greater u v) hi h.right i.right };
    }

unfoldable pub times : Format → Span → Span → Span
unfolding hull
times f any j = any
times f (span a b) any = any
times f (span a b) (span c d) = hull (mul f a c) (mul f a d) (mul f b c) (mul f b d)

pub rounds_number : (f : Format) (z : Float) (p n c : ℕ) → 0 < c → Rounds f z p n c → Number z
rounds_number f z p n c C r = le_left z z (rounds_mono f z z p n c p n c C C r r (omega arith))

product_number : (f : Format) (x y : Float) → T (finite x) → T (finite y) → Number (mul f x y)
product_number f x y p q = rounds_number f (mul f x y) _ _ _ (mul-pos (den_pos x) (den_pos y)) (mul_rounds f x y p q)

-- a times y is between a times c and a times d, where y is between c and d
side : (f : Format) (lo hi a c d y : Float) → T (finite a) → T (finite c) → T (finite d) → Between c d y → Between lo hi (mul f a c) → Between lo hi (mul f a d) → Between lo hi (mul f a y)
side f lo hi a c d y A C D b p q =
    let Y = between_finite C D b in
    elim (total_le nought a (no_nan_finite nought tt) (no_nan_finite a A)) [
      | inl n ↦ record { low = trans_le lo (mul f a c) (mul f a y) p.low (mul_left f a c y A C Y n b.low); high = trans_le (mul f a y) (mul f a d) hi (mul_left f a y d A Y D n b.high) q.high }
      | inr n ↦ record { low = trans_le lo (mul f a d) (mul f a y) q.low (mul_anti f a y d A Y D n b.high); high = trans_le (mul f a y) (mul f a c) hi (mul_anti f a c y A C Y n b.low) p.high }
    ]

turned : (f : Format) {lo hi : Float} (x y : Float) → Between lo hi (mul f x y) → Between lo hi (mul f y x)
turned f {lo} {hi} x y b = subst (Between lo hi) (mul_turn f x y) b

pub times_in : (f : Format) (i j : Span) {x y : Float} → In i x → In j y → In (times f i j) (mul f x y)
unfolding times hull
times_in f any j h k = unknown
times_in f (span a b) any h k = unknown
times_in f (span a b) (span c d) {x} {y} h k =
    let A = h.is.from in
    let B = h.is.to in
    let C = k.is.from in
    let D = k.is.to in
    let w = hull_is (mul f a c) (mul f a d) (mul f b c) (mul f b d) (product_number f a c A C) (product_number f a d A D) (product_number f b c B C) (product_number f b d B D) in
    let l = lesser (lesser (mul f a c) (mul f a d)) (lesser (mul f b c) (mul f b d)) in
    let g = greater (greater (mul f a c) (mul f a d)) (greater (mul f b c) (mul f b d)) in
    let u = turned f a y (side f l g a c d y A C D k.is.between w.first w.second) in
    let v = turned f b y (side f l g b c d y B C D k.is.between w.third w.fourth) in
    made_in l g (mul f x y) (turned f y x (side f l g y a b x (held_finite k) A B h.is.between u v))

-- ---- roots and narrowing
unfoldable pub rooted : Format → Span → Span
unfolding made
rooted f any = any
rooted f (span a b) = cond (le nought a) (made (sqrt_of f a) (sqrt_of f b)) any

pub rooted_in : (f : Format) (i : Span) {x : Float} → In i x → In (rooted f i) (sqrt_of f x)
unfolding rooted
rooted_in f any h = unknown
rooted_in f (span a b) {x} h = go (le nought a) refl
  where
    go : (c : Bool) → le nought a ≡ c → In (cond c (made (sqrt_of f a) (sqrt_of f b)) any) (sqrt_of f x)
    go false e = unknown
    go true e =
        let n : T (le nought a) = subst T (sym e) tt in
        made_in (sqrt_of f a) (sqrt_of f b) (sqrt_of f x) (record { low = sqrt_mono f a x n h.is.between.low; high = sqrt_mono f x b (trans_le nought a x n h.is.between.low) h.is.between.high })

unfoldable pub narrowed : Span → Span
unfolding made
narrowed any = any
narrowed (span a b) = made (narrow_of a) (narrow_of b)

pub narrowed_in : (i : Span) {x : Float} → In i x → In (narrowed i) (narrow_of x)
unfolding narrowed
narrowed_in any h = unknown
narrowed_in (span a b) {x} h = made_in (narrow_of a) (narrow_of b) (narrow_of x) (record { low = narrow_mono a x h.is.between.low; high = narrow_mono x b h.is.between.high })

-- ---- Horner's scheme
unfoldable pub horner_in : List Float → Span → Span
unfolding plus times point
horner_in [] x = any
horner_in (c ∷ []) x = point c
horner_in (c ∷ (d ∷ cs)) x = plus binary64 (times binary64 (horner_in (d ∷ cs) x) x) (point c)

pub horner_held : (t : List Float) (i : Span) {x : Float} → In i x → In (horner_in t i) (horner t x)
unfolding horner_in horner
horner_held [] i h = unknown
horner_held (c ∷ []) i h = point_in c
horner_held (c ∷ (d ∷ cs)) i h = plus_in binary64 (times binary64 (horner_in (d ∷ cs) i) i) (point c) (times_in binary64 (horner_in (d ∷ cs) i) i (horner_held (d ∷ cs) i h) h) (point_in c)

-- ---- where an interval lies
-- between l and h
unfoldable pub inside : Float → Float → Span → Bool
inside l h any = false
inside l h (span a b) = le l a && le b h

pub inside_between : (l h : Float) (i : Span) {x : Float} → T (inside l h i) → In i x → Between l h x
unfolding inside
inside_between l h any t k = absurd t
inside_between l h (span a b) t k = wider l h (and_l (le l a) (le b h) t) (and_r (le l a) (le b h) t) k.is.between

-- ---- lists
abbrev pub Each : List Span → List Float → Type 0
Each [] [] = Unit
Each [] (x ∷ xs) = ⊥
Each (i ∷ is) [] = ⊥
Each (i ∷ is) (x ∷ xs) = In i x × Each is xs

pub each_at : (is : List Span) (xs : List Float) → Each is xs → (k : ℕ) → In (get_or is k any) (get_or xs k nan)
each_at [] [] h k = unknown
each_at [] (x ∷ xs) h k = absurd h
each_at (i ∷ is) [] h k = absurd h
each_at (i ∷ is) (x ∷ xs) h zero = h.0
each_at (i ∷ is) (x ∷ xs) h (suc k) = each_at is xs h.1 k

pub each_set : (is : List Span) (xs : List Float) {i : Span} {x : Float} → Each is xs → In i x → (k : ℕ) → Each (set is k i) (set xs k x)
each_set [] [] h v k = tt
each_set [] (x ∷ xs) h v k = absurd h
each_set (i ∷ is) [] h v k = absurd h
each_set (i ∷ is) (x ∷ xs) h v zero = (v, h.1)
each_set (i ∷ is) (x ∷ xs) h v (suc k) = (h.0, each_set is xs h.1 v k)

-- each number by itself
unfoldable pub points : List Float → List Span
unfolding point
points [] = []
points (x ∷ xs) = point x ∷ points xs

pub points_in : (l : List Float) → Each (points l) l
unfolding points
points_in [] = tt
points_in (x ∷ xs) = (point_in x, points_in xs)
