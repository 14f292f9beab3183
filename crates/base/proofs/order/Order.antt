-- The order `le` of the floats is reflexive off NaN, transitive and total, and `neg` turns it
-- round: a finite value is read as (plus - less) / den, so that one inequality of whole numbers
-- (`Cross`) is the order for all signs. Assumes nothing.
use Rattle.std.proofs.Common.{◌≡◌, ℕ, ◌+◌, ◌*◌, ◌<◌, ◌≤◌, Bool, true, false, cond, not, ◌&&◌, ◌||◌, T, eqb, ltb, ◌⊎◌, ℤ, pos, sym, refl, subst, inl, inr, mul-le-mul_right, add-mul, zero-mul, mul_right_comm, le_of_mul-le-mul_right, arith, eqb→eq, ltb→lt, lt→ltb, Float}
use native.Mathlib.Decide.{dec_le, dec_lt}
use lib.Ieee.{nan, inf, fin, up, down, neg, lt, eq, le, is_nan}
use lib.Ieee.Fits.{and_l, and_r, and_i, eq→eqb, down_pos}
use lib.Ieee.Scale.{finite}
use lib.Ieee.Positive.{den}
use Rattle.base.specs.Number.{negative, abs_of}
use Rattle.base.proofs.verdicts.Picks.{never'}

-- ---- a signed whole number as a difference
abbrev pub gain : Bool → ℕ → ℕ
gain false a = a
gain true a = 0

abbrev pub loss : Bool → ℕ → ℕ
loss false a = 0
loss true a = a

abbrev pub plus : Float → ℕ
plus nan = 0
plus (inf s) = 0
plus (fin s m e) = gain s (m * up e)

abbrev pub less : Float → ℕ
less nan = 0
less (inf s) = 0
less (fin s m e) = loss s (m * up e)

-- x ≤ y of finite values
abbrev pub Cross : Float → Float → Type 0
Cross x y = plus x * den y + less y * den x ≤ plus y * den x + less x * den y

-- ---- tests
or_cases : (a b : Bool) → T (a || b) → T a ⊎ T b
or_cases true b t = inl tt
or_cases false b t = inr t

or_l : (a b : Bool) → T a → T (a || b)
or_l true b t = tt
or_l false b t = absurd t

or_r : (a b : Bool) → T b → T (a || b)
or_r true b t = tt
or_r false b t = t

lt_or_eq : (a b c d : ℕ) (r : Bool) → T (ltb a b || (eqb c d && r)) → (a < b) ⊎ (c ≡ d) × T r
lt_or_eq a b c d r t = elim (or_cases (ltb a b) (eqb c d && r) t) [ inl u ↦ inl (ltb→lt a b u) | inr u ↦ inr (eqb→eq c d (and_l (eqb c d) r u), and_r (eqb c d) r u) ]

by_lt : (a b c d : ℕ) (r : Bool) → a < b → T (ltb a b || (eqb c d && r))
by_lt a b c d r h = or_l (ltb a b) (eqb c d && r) (lt→ltb a b h)

by_eq : (a b c d : ℕ) (r : Bool) → c ≡ d → T r → T (ltb a b || (eqb c d && r))
by_eq a b c d r h t = or_r (ltb a b) (eqb c d && r) (and_i (eqb c d) r (eq→eqb h) t)

alike : (a b : ℕ) → a ≡ b → T (eqb a b)
alike a b h = eq→eqb h

-- ---- `le` of finite values is `Cross`
pub le→cross : (x y : Float) → T (finite x) → T (finite y) → T (le x y) → Cross x y
unfolding le
le→cross nan y p q h = absurd p
le→cross (inf s) y p q h = absurd p
le→cross (fin s m e) nan p q h = absurd q
le→cross (fin s m e) (inf t) p q h = absurd q
le→cross (fin false m e) (fin false n d) p q h =
    let a = m * up e * down d in
    let b = n * up d * down e in
    elim (lt_or_eq a b a b true h) [ inl u ↦ omega arith | inr u ↦ let v = u.0 in omega arith ]
le→cross (fin false m e) (fin true n d) p q h =
    let a = m * up e * down d in
    let b = n * up d * down e in
    let u = eqb→eq a b (and_l (eqb a b) (eqb a 0) h) in
    let v = eqb→eq a 0 (and_r (eqb a b) (eqb a 0) h) in
    omega arith
le→cross (fin true m e) (fin false n d) p q h = omega arith
le→cross (fin true m e) (fin true n d) p q h =
    let a = m * up e * down d in
    let b = n * up d * down e in
    elim (lt_or_eq b a a b true h) [ inl u ↦ omega arith | inr u ↦ let v = u.0 in omega arith ]

pub cross→le : (x y : Float) → T (finite x) → T (finite y) → Cross x y → T (le x y)
unfolding le
cross→le nan y p q h = absurd p
cross→le (inf s) y p q h = absurd p
cross→le (fin s m e) nan p q h = absurd q
cross→le (fin s m e) (inf t) p q h = absurd q
cross→le (fin false m e) (fin false n d) p q h =
    let a = m * up e * down d in
    let b = n * up d * down e in
    elim (dec_lt a b) [ yes u ↦ by_lt a b a b true u | no u ↦ by_eq a b a b true (omega arith) tt ]
cross→le (fin false m e) (fin true n d) p q h =
    let a = m * up e * down d in
    let b = n * up d * down e in
    and_i (eqb a b) (eqb a 0) (alike a b (omega arith)) (alike a 0 (omega arith))
cross→le (fin true m e) (fin false n d) p q h =
    let a = m * up e * down d in
    let b = n * up d * down e in
    elim (dec_lt 0 (a + b)) [ yes u ↦ by_lt 0 (a + b) a b (eqb a 0) u | no u ↦ by_eq 0 (a + b) a b (eqb a 0) (omega arith) (alike a 0 (omega arith)) ]
cross→le (fin true m e) (fin true n d) p q h =
    let a = m * up e * down d in
    let b = n * up d * down e in
    elim (dec_lt b a) [ yes u ↦ by_lt b a a b true u | no u ↦ by_eq b a a b true (omega arith) tt ]

-- ---- who is no NaN
pub le_left : (x y : Float) → T (le x y) → T (not (is_nan x))
unfolding le is_nan
le_left nan y h = absurd h
le_left (inf s) y h = tt
le_left (fin s m e) y h = tt

pub le_right : (x y : Float) → T (le x y) → T (not (is_nan y))
unfolding le is_nan
le_right nan nan h = absurd h
le_right (inf s) nan h = absurd h
le_right (fin s m e) nan h = absurd h
le_right x (inf t) h = tt
le_right x (fin t n d) h = tt

pub no_nan_finite : (x : Float) → T (finite x) → T (not (is_nan x))
unfolding is_nan
no_nan_finite nan h = absurd h
no_nan_finite (inf s) h = tt
no_nan_finite (fin s m e) h = tt

-- what lies between finite values is finite
pub finite_between : (a x b : Float) → T (finite a) → T (finite b) → T (le a x) → T (le x b) → T (finite x)
unfolding le
finite_between a nan b p q h k = absurd k
finite_between nan (inf s) b p q h k = absurd p
finite_between (inf r) (inf s) b p q h k = absurd p
finite_between (fin r m e) (inf true) b p q h k = absurd h
finite_between (fin r m e) (inf false) nan p q h k = absurd q
finite_between (fin r m e) (inf false) (inf t) p q h k = absurd q
finite_between (fin r m e) (inf false) (fin t n d) p q h k = absurd k
finite_between a (fin s m e) b p q h k = tt

-- ---- reflexive, total, transitive
pub le_inf : (x : Float) → T (not (is_nan x)) → T (le x (inf false))
unfolding le is_nan
le_inf nan h = absurd h
le_inf (inf true) h = tt
le_inf (inf false) h = tt
le_inf (fin s m e) h = tt

pub inf_le : (x : Float) → T (not (is_nan x)) → T (le (inf true) x)
unfolding le is_nan
inf_le nan h = absurd h
inf_le (inf true) h = tt
inf_le (inf false) h = tt
inf_le (fin s m e) h = tt

pub refl_le : (x : Float) → T (not (is_nan x)) → T (le x x)
unfolding is_nan
refl_le nan h = absurd h
refl_le (inf true) h = inf_le (inf true) h
refl_le (inf false) h = le_inf (inf false) h
refl_le (fin s m e) h = cross→le (fin s m e) (fin s m e) tt tt (omega arith)

pub total_le : (x y : Float) → T (not (is_nan x)) → T (not (is_nan y)) → T (le x y) ⊎ T (le y x)
unfolding is_nan
total_le nan y p q = absurd p
total_le (inf true) y p q = inl (inf_le y q)
total_le (inf false) y p q = inr (le_inf y q)
total_le (fin s m e) nan p q = absurd q
total_le (fin s m e) (inf true) p q = inr (inf_le (fin s m e) p)
total_le (fin s m e) (inf false) p q = inl (le_inf (fin s m e) p)
total_le (fin s m e) (fin t n d) p q =
    let x = fin s m e in
    let y = fin t n d in
    elim (dec_le (plus x * den y + less y * den x) (plus y * den x + less x * den y)) [ yes u ↦ inl (cross→le x y tt tt u) | no u ↦ inr (cross→le y x tt tt (omega arith)) ]

cross_trans : (p n c q m d r l e : ℕ) → 0 < d → p * d + m * c ≤ q * c + n * d → q * e + l * d ≤ r * d + m * e → p * e + l * c ≤ r * c + n * e
cross_trans p n c q m d r l e D h k =
    let u : (p * d + m * c) * e ≤ (q * c + n * d) * e = mul-le-mul_right e h in
    let v : (q * e + l * d) * c ≤ (r * d + m * e) * c = mul-le-mul_right c k in
    let u' : p * d * e + m * c * e ≤ q * c * e + n * d * e = simp add-mul at u in
    let v' : q * e * c + l * d * c ≤ r * d * c + m * e * c = simp add-mul at v in
    le_of_mul-le-mul_right
    (simp add-mul (omega (
      arith,
      mul_right_comm p d e,
      mul_right_comm m c e,
      mul_right_comm q c e,
      mul_right_comm n d e,
      mul_right_comm l d c,
      mul_right_comm r d c,
    )))
    D

pub trans_le : (x y z : Float) → T (le x y) → T (le y z) → T (le x z)
unfolding le
trans_le nan y z h k = absurd h
trans_le (inf true) y z h k = inf_le z (le_right y z k)
trans_le (inf false) nan z h k = absurd h
trans_le (inf false) (inf true) z h k = absurd h
trans_le (inf false) (inf false) z h k = k
trans_le (inf false) (fin t n d) z h k = absurd h
trans_le (fin s m e) nan z h k = absurd h
trans_le (fin s m e) (inf true) z h k = absurd h
trans_le (fin s m e) (inf false) nan h k = absurd k
trans_le (fin s m e) (inf false) (inf true) h k = absurd k
trans_le (fin s m e) (inf false) (inf false) h k = tt
trans_le (fin s m e) (inf false) (fin r l c) h k = absurd k
trans_le (fin s m e) (fin t n d) nan h k = absurd k
trans_le (fin s m e) (fin t n d) (inf true) h k = absurd k
trans_le (fin s m e) (fin t n d) (inf false) h k = tt
trans_le (fin s m e) (fin t n d) (fin r l c) h k =
    let x = fin s m e in
    let y = fin t n d in
    let z = fin r l c in
    cross→le x z tt tt (cross_trans (plus x) (less x) (den x) (plus y) (less y) (den y) (plus z) (less z) (den z) (down_pos d) (le→cross x y tt tt h) (le→cross y z tt tt k))

pub lt→le : (x y : Float) → T (lt x y) → T (le x y)
unfolding le
lt→le x y h = or_l (lt x y) (eq x y) h

-- what is not less is at least as large
cross→lt : (x y : Float) → T (finite x) → T (finite y) → plus x * den y + less y * den x < plus y * den x + less x * den y → T (lt x y)
unfolding lt
cross→lt nan y p q h = absurd p
cross→lt (inf s) y p q h = absurd p
cross→lt (fin s m e) nan p q h = absurd q
cross→lt (fin s m e) (inf t) p q h = absurd q
cross→lt (fin false m e) (fin false n d) p q h = lt→ltb (m * up e * down d) (n * up d * down e) (omega arith)
cross→lt (fin false m e) (fin true n d) p q h = absurd (omega arith)
cross→lt (fin true m e) (fin false n d) p q h = lt→ltb 0 (m * up e * down d + n * up d * down e) (omega arith)
cross→lt (fin true m e) (fin true n d) p q h = lt→ltb (n * up d * down e) (m * up e * down d) (omega arith)

pub not-lt→le : (x y : Float) → T (not (is_nan x)) → T (not (is_nan y)) → lt x y ≡ false → T (le y x)
unfolding is_nan
not-lt→le nan y p q h = absurd p
not-lt→le (inf false) y p q h = le_inf y q
not-lt→le (inf true) nan p q h = absurd q
not-lt→le (inf true) (inf true) p q h = inf_le (inf true) p
not-lt→le (inf true) (inf false) p q h = never' (unfold lt in h)
not-lt→le (inf true) (fin t n d) p q h = never' (unfold lt in h)
not-lt→le (fin s m e) nan p q h = absurd q
not-lt→le (fin s m e) (inf true) p q h = inf_le (fin s m e) p
not-lt→le (fin s m e) (inf false) p q h = never' (unfold lt in h)
not-lt→le (fin s m e) (fin t n d) p q h =
    let x = fin s m e in
    let y = fin t n d in
    elim (dec_lt (plus x * den y + less y * den x) (plus y * den x + less x * den y)) [ yes u ↦ absurd (subst T h (cross→lt x y tt tt u)) | no u ↦ cross→le y x tt tt (omega arith) ]

-- ---- `neg`
pub neg_finite : (x : Float) → T (finite x) → T (finite (neg x))
unfolding neg
neg_finite nan h = h
neg_finite (inf s) h = h
neg_finite (fin s m e) h = tt

pub neg_neg : (x : Float) → neg (neg x) ≡ x
unfolding neg
neg_neg nan = refl
neg_neg (inf true) = refl
neg_neg (inf false) = refl
neg_neg (fin true m e) = refl
neg_neg (fin false m e) = refl

gain_not : (s : Bool) (a : ℕ) → gain (not s) a ≡ loss s a
gain_not true a = refl
gain_not false a = refl

loss_not : (s : Bool) (a : ℕ) → loss (not s) a ≡ gain s a
loss_not true a = refl
loss_not false a = refl

pub neg_le : (x y : Float) → T (le x y) → T (le (neg y) (neg x))
unfolding neg is_nan
neg_le nan y h = absurd (le_left nan y h)
neg_le (inf s) nan h = absurd (le_right (inf s) nan h)
neg_le (inf true) (inf t) h = le_inf (inf (not t)) tt
neg_le (inf false) (inf true) h = absurd (unfold le in h)
neg_le (inf false) (inf false) h = inf_le (inf true) tt
neg_le (inf true) (fin t n d) h = le_inf (fin (not t) n d) tt
neg_le (inf false) (fin t n d) h = absurd (unfold le in h)
neg_le (fin s m e) nan h = absurd (le_right (fin s m e) nan h)
neg_le (fin s m e) (inf true) h = absurd (unfold le in h)
neg_le (fin s m e) (inf false) h = inf_le (fin (not s) m e) tt
neg_le (fin s m e) (fin t n d) h =
    let c = le→cross (fin s m e) (fin t n d) tt tt h in
    cross→le (fin (not t) n d) (fin (not s) m e) tt tt
    (simp (gain_not, loss_not) (omega arith))

-- ---- sizes
pub abs_fin : (s : Bool) (m : ℕ) (e : ℤ) → abs_of (fin s m e) ≡ fin false m e
unfolding abs_of negative neg
abs_fin true m e = refl
abs_fin false m e = refl

pub abs_inf : (s : Bool) → abs_of (inf s) ≡ inf false
unfolding abs_of negative neg
abs_inf true = refl
abs_inf false = refl

pub abs_nan : abs_of nan ≡ nan
unfolding abs_of negative neg
abs_nan = refl

-- -|x| ≤ x ≤ |x|
pub le_abs : (x : Float) → T (not (is_nan x)) → T (le x (abs_of x))
unfolding is_nan
le_abs nan h = absurd h
le_abs (inf s) h = subst (λ (z : Float). T (le (inf s) z)) (sym (abs_inf s)) (le_inf (inf s) h)
le_abs (fin true m e) h = subst (λ (z : Float). T (le (fin true m e) z)) (sym (abs_fin true m e)) (cross→le (fin true m e) (fin false m e) tt tt (omega arith))
le_abs (fin false m e) h = subst (λ (z : Float). T (le (fin false m e) z)) (sym (abs_fin false m e)) (refl_le (fin false m e) h)

pub abs_neg : (x : Float) → abs_of (neg x) ≡ abs_of x
unfolding abs_of negative neg
abs_neg nan = refl
abs_neg (inf true) = refl
abs_neg (inf false) = refl
abs_neg (fin true m e) = refl
abs_neg (fin false m e) = refl

neg_no_nan : (x : Float) → T (not (is_nan x)) → T (not (is_nan (neg x)))
unfolding neg is_nan
neg_no_nan nan h = h
neg_no_nan (inf s) h = h
neg_no_nan (fin s m e) h = h

pub neg_abs_le : (x : Float) → T (not (is_nan x)) → T (le (neg (abs_of x)) x)
neg_abs_le x h =
    subst (λ (z : Float). T (le (neg (abs_of x)) z)) (neg_neg x)
    (neg_le (neg x) (abs_of x) (subst (λ (z : Float). T (le (neg x) z)) (abs_neg x) (le_abs (neg x) (neg_no_nan x h))))

-- of a and -a, the size is one
abs_cases : (x : Float) → (abs_of x ≡ x) ⊎ (abs_of x ≡ neg x)
unfolding abs_of
abs_cases x = go (negative x)
  where
    go : (b : Bool) → (cond b (neg x) x ≡ x) ⊎ (cond b (neg x) x ≡ neg x)
    go true = inr refl
    go false = inl refl

pub abs_no_nan : (x a : Float) → T (le (abs_of x) a) → T (not (is_nan x))
unfolding is_nan
abs_no_nan nan a h = le_left nan a (subst (λ (z : Float). T (le z a)) abs_nan h)
abs_no_nan (inf s) a h = tt
abs_no_nan (fin s m e) a h = tt

pub abs→le : (x a : Float) → T (le (abs_of x) a) → T (le x a)
abs→le x a h = trans_le x (abs_of x) a (le_abs x (abs_no_nan x a h)) h

pub abs→ge : (x a : Float) → T (le (abs_of x) a) → T (le (neg a) x)
abs→ge x a h = trans_le (neg a) (neg (abs_of x)) x (neg_le (abs_of x) a h) (neg_abs_le x (abs_no_nan x a h))

pub le→abs : (x a : Float) → T (le (neg a) x) → T (le x a) → T (le (abs_of x) a)
le→abs x a h k = elim (abs_cases x) [
  | inl e ↦ subst (λ (z : Float). T (le z a)) (sym e) k
  | inr e ↦ subst (λ (z : Float). T (le z a)) (sym e) (subst (λ (z : Float). T (le (neg x) z)) (neg_neg a) (neg_le (neg a) x h))
]

-- ---- not below zero
abbrev pub nought : Float
nought = fin false 0 (pos 0)

pub abs_not_below : (x : Float) → T (not (is_nan x)) → T (le nought (abs_of x))
unfolding is_nan
abs_not_below nan h = absurd h
abs_not_below (inf s) h = subst (λ (z : Float). T (le nought z)) (sym (abs_inf s)) (le_inf nought tt)
abs_not_below (fin s m e) h = subst (λ (z : Float). T (le nought z)) (sym (abs_fin s m e)) (cross→le nought (fin false m e) tt tt (omega (arith, zero-mul (down e))))

neg_zero : T (le nought (neg nought))
unfolding neg le lt eq
neg_zero = tt

pub neg_not_above : (x : Float) → T (le x nought) → T (le nought (neg x))
neg_not_above x h = trans_le nought (neg nought) (neg x) neg_zero (neg_le x nought h)

pub neg_not_below : (x : Float) → T (le nought x) → T (le (neg x) nought)
neg_not_below x h = trans_le (neg x) (neg nought) nought (neg_le nought x h) (unfold neg le in tt)

pub less_zero : (x : Float) → T (finite x) → T (le nought x) → less x ≡ 0
less_zero nan p h = refl
less_zero (inf s) p h = refl
less_zero (fin false m e) p h = refl
less_zero (fin true m e) p h = let c = le→cross nought (fin true m e) tt tt h in omega arith

-- ---- an interval
pub record Between (lo hi x : Float) : Type 0 where
  pub low : T (le lo x)
  pub high : T (le x hi)

pub wider : {lo hi x : Float} (lo' hi' : Float) → T (le lo' lo) → T (le hi hi') → Between lo hi x → Between lo' hi' x
wider {lo} {hi} {x} lo' hi' p q b = record { low = trans_le lo' lo x p b.low; high = trans_le x hi hi' b.high q }

pub between_finite : {lo hi x : Float} → T (finite lo) → T (finite hi) → Between lo hi x → T (finite x)
between_finite {lo} {hi} {x} p q b = finite_between lo x hi p q b.low b.high

pub size_between : {x a : Float} → T (le (abs_of x) a) → Between (neg a) a x
size_between {x} {a} h = record { low = abs→ge x a h; high = abs→le x a h }
