-- What is read byte by byte is the number that a word is defined to be (`read`). `made` is the
-- number that what is read and the digits D after it make, k of D standing after the point: each
-- byte moves one digit from D into what is read (`digit`) or spoils both. By induction over the
-- bytes after the point (`after`), then over those before it (`before`). Assumes nothing.
use Rattle.std.proofs.Common.{◌≡◌, refl, sym, ap, ◌∙◌, ◌⊎◌, inl, inr, Bool, true, false, cond, ◌&&◌, ◌||◌, List, [], ◌∷◌, ◌++◌, ℕ, suc, ◌+◌, ◌-◌, ◌*◌, ◌^◌, ◌≤◌, ◌<◌, le_refl, le_trans, zero-lt-suc, add-zero, zero-add, add-one, arith, leb-true, ltb-true, eqb-true, lt-ltb, le-ltb, le-leb, eqb, leb, ltb, length, get_or, drop, drop_of_length-le, drop-cons, Option, Some, None, option_and_then}
use native.Mathlib.Decide.{dec_lt}
use borrow.Author.Tests.{eqb-false, lt-leb}
use Rattle.base.proofs.verdicts.Picks.{cond_true, cond_false, never}
use Rattle.wording.specs.declared.number.Decimal.{Decimal}
use Rattle.wording.specs.declared.number.Scan.{Scan}
use Rattle.wording.specs.Number.{is_digit, all_digits, value_from, before_point, after_point, digits_in, is_unsigned, unsigned_in, number_in, is_written, unread, with_point, with_byte, scanned, number_of}

-- ---- four tests together
third : (a b e : Bool) → a && b && false && e ≡ false
third true true e = refl
third true false e = refl
third false b e = refl

fourth : (a b c : Bool) → a && b && c && false ≡ false
fourth true true true = refl
fourth true true false = refl
fourth true false c = refl
fourth false b c = refl

and_false : (a : Bool) → a && false ≡ false
and_false true = refl
and_false false = refl

and_left : (a b : Bool) → a && b ≡ true → a ≡ true
and_left true b e = refl
and_left false b e = e

and_right : (a b : Bool) → a && b ≡ true → b ≡ true
and_right true b e = e
and_right false b e = never e

or_true : (a : Bool) → a || true ≡ true
or_true true = refl
or_true false = refl

-- ---- the number that the digits n, of which p stand after the point, and D after them make
abbrev good? : ℕ → Bool → ℕ → List ℕ → ℕ → Bool
good? n any p D k = all_digits D && (any || ltb 0 (length D)) && ltb (value_from n D) (10 ^ 18) && leb (p + k) 18

abbrev made : Bool → ℕ → Bool → ℕ → List ℕ → ℕ → Option Decimal
made negative n any p D k =
    cond (good? n any p D k) (Some (record { negative = negative; digits = value_from n D; places = p + k })) None

module _ (negative : Bool) (n : ℕ) (any : Bool) (p : ℕ) where
  digit : (c : ℕ) (D : List ℕ) (k : ℕ) → is_digit c ≡ true → made negative n any p (c ∷ D) k ≡ made negative (10 * n + (c - 48)) true p D k
  unfolding all_digits value_from
  digit c D k e =
      let m = 10 * n + (c - 48) in
      let some : any || ltb 0 (suc (length D)) ≡ true = ap (λ b. any || b) (lt-ltb 0 (suc (length D)) (zero-lt-suc (length D))) ∙ or_true any in
      ap (λ b. cond (b && ltb (value_from m D) (10 ^ 18) && leb (p + k) 18) (Some (record { negative = negative; digits = value_from m D; places = p + k })) None) (λ i. (e i && all_digits D) && some i)

  no_digit : (c : ℕ) (D : List ℕ) (k : ℕ) → is_digit c ≡ false → made negative n any p (c ∷ D) k ≡ None
  unfolding all_digits
  no_digit c D k e = cond_false _ _ (ap (λ b. (b && all_digits D) && (any || ltb 0 (length (c ∷ D))) && ltb (value_from n (c ∷ D)) (10 ^ 18) && leb (p + k) 18) e)

  too_many : (D : List ℕ) (k : ℕ) → 18 < p + k → made negative n any p D k ≡ None
  too_many D k h =
      cond_false _ _ (ap (λ b. all_digits D && (any || ltb 0 (length D)) && ltb (value_from n D) (10 ^ 18) && b) (lt-leb (p + k) 18 h) ∙ fourth (all_digits D) (any || ltb 0 (length D)) (ltb (value_from n D) (10 ^ 18)))

value_ge : (n : ℕ) (D : List ℕ) → n ≤ value_from n D
unfolding value_from
value_ge n [] = le_refl n
value_ge n (c ∷ D) = le_trans (omega arith) (value_ge (10 * n + (c - 48)) D)

too_large : (negative : Bool) (n : ℕ) (any : Bool) (p : ℕ) (D : List ℕ) (k : ℕ) → 10 ^ 18 ≤ n → made negative n any p D k ≡ None
too_large negative n any p D k h =
    cond_false _ _ (ap (λ b. all_digits D && (any || ltb 0 (length D)) && b && leb (p + k) 18) (le-ltb (value_from n D) (10 ^ 18) (le_trans h (value_ge n D))) ∙ third (all_digits D) (any || ltb 0 (length D)) (leb (p + k) 18))

-- ---- what is read, and the bytes that are left, as a number
abbrev finished : Bool → Option Scan → List ℕ → Option Decimal
finished negative o l = option_and_then (number_of negative) (option_and_then (λ t. scanned t l) o)

-- ---- the end
abbrev so_far : ℕ → ℕ → Bool → Bool → Scan
so_far n p any point = record { digits = n; places = p; any = any; point = point }

ended : (negative : Bool) (n p : ℕ) (any point : Bool) → n < 10 ^ 18 → p ≤ 18 → number_of negative (so_far n p any point) ≡ made negative n any p [] 0
unfolding all_digits value_from
ended negative n p false point N P = refl
ended negative n p true point N P =
    λ i. cond (sym (lt-ltb n (10 ^ 18) N) i && sym (le-leb (p + 0) 18 (omega arith)) i) (Some (record { negative = negative; digits = n; places = sym (add-zero p) i })) None

-- ---- what a byte makes of it, by its kind
module _ (n p : ℕ) (any point : Bool) (c : ℕ) where
  spoils : is_digit c ≡ false → (c ≡ 46 → point ≡ true) → with_byte (so_far n p any point) c ≡ None
  spoils e h = cond_false _ _ e ∙ go (eqb c 46) refl
    where
      go : (b : Bool) → eqb c 46 ≡ b → cond b (with_point (so_far n p any point)) None ≡ None
      go true t = cond_true _ _ (h (eqb-true c 46 t))
      go false t = refl

  fills : is_digit c ≡ true → (10 ^ 17 ≤ n) ⊎ (18 ≤ p) → with_byte (so_far n p any point) c ≡ None
  fills e (inl h) = cond_true _ _ e ∙ cond_false _ _ (ap (λ b. b && ltb p 18) (le-ltb n (10 ^ 17) h))
  fills e (inr h) = cond_true _ _ e ∙ cond_false _ _ (ap (λ b. ltb n (10 ^ 17) && b) (le-ltb p 18 h) ∙ and_false (ltb n (10 ^ 17)))

  adds : is_digit c ≡ true → n < 10 ^ 17 → p < 18 → with_byte (so_far n p any point) c ≡ Some (so_far (10 * n + (c - 48)) (p + cond point 1 0) true point)
  adds e h g = cond_true _ _ e ∙ cond_true _ _ (λ i. lt-ltb n (10 ^ 17) h i && lt-ltb p 18 g i)

points : (n : ℕ) (any : Bool) (c : ℕ) → c ≡ 46 → with_byte (so_far n 0 any false) c ≡ Some (so_far n 0 any true)
points n any c e = ap (with_byte (so_far n 0 any false)) e

pub digit_le : (c : ℕ) → is_digit c ≡ true → c - 48 ≤ 9
digit_le c e = omega (arith, leb-true c 57 (and_right (leb 48 c) (leb c 57) e))

-- the next byte, o being what is read with it
pub scanned_next : (s : Scan) (word : List ℕ) (i : ℕ) (o : Option Scan) → i < length word → o ≡ with_byte s (get_or word i 0) → scanned s (drop i word) ≡ option_and_then (λ t. scanned t (drop (i + 1) word)) o
unfolding scanned
scanned_next s word i o h e =
    ap (scanned s) (drop-cons word i 0 h)
    ∙ (λ k. option_and_then (λ t. scanned t (drop (sym (add-one i) k) word)) (sym e k))

pub scanned_all : (s : Scan) (word : List ℕ) (i : ℕ) → length word ≤ i → scanned s (drop i word) ≡ Some s
unfolding scanned
scanned_all s word i h = ap (scanned s) (drop_of_length-le word h)

module _ (negative : Bool) where
  spoilt_is : (o : Option Scan) (l : List ℕ) → o ≡ None → finished negative o l ≡ None
  spoilt_is o l e = ap (λ t. finished negative t l) e

  -- ---- after the point
  after : (l : List ℕ) (n p : ℕ) (any : Bool) → n < 10 ^ 18 → p ≤ 18 → finished negative (Some (so_far n p any true)) l ≡ made negative n any p l (length l)
  unfolding scanned
  after [] n p any N P = ended negative n p any true N P
  after (c ∷ l) n p any N P = go (is_digit c) refl (dec_lt n (10 ^ 17)) (dec_lt p 18) (after l (10 * n + (c - 48)) (p + 1) true)
    where
      m : ℕ
      m = 10 * n + (c - 48)

      go :
          (b : Bool) → is_digit c ≡ b → Dec (n < 10 ^ 17) → Dec (p < 18) →
          (m < 10 ^ 18 → p + 1 ≤ 18 → finished negative (Some (so_far m (p + 1) true true)) l ≡ made negative m true (p + 1) l (length l)) →
          finished negative (with_byte (so_far n p any true) c) l ≡ made negative n any p (c ∷ l) (suc (length l))
      go false e x y ih = spoilt_is _ l (spoils n p any true c e (λ t. refl)) ∙ sym (no_digit negative n any p c l (suc (length l)) e)
      go true e (no x) y ih =
          spoilt_is _ l (fills n p any true c e (inl (omega arith)))
          ∙ sym (digit negative n any p c l (suc (length l)) e ∙ too_large negative m true p l (suc (length l)) (omega arith))
      go true e (yes x) (no y) ih =
          spoilt_is _ l (fills n p any true c e (inr (omega arith))) ∙ sym (too_many negative n any p (c ∷ l) (suc (length l)) (omega arith))
      go true e (yes x) (yes y) ih =
          let d = digit_le c e in
          let k : p + 1 + length l ≡ p + suc (length l) = omega arith in
          ap (λ s. finished negative s l) (adds n p any true c e x y) ∙ ih (omega arith) (omega arith)
          ∙ ap (λ j. cond (all_digits l && true && ltb (value_from m l) (10 ^ 18) && leb j 18) (Some (record { negative = negative; digits = value_from m l; places = j })) None) k
          ∙ sym (digit negative n any p c l (suc (length l)) e)

  -- ---- before the point
  before : (l : List ℕ) (n : ℕ) (any : Bool) → n < 10 ^ 18 → finished negative (Some (so_far n 0 any false)) l ≡ made negative n any 0 (digits_in l) (length (after_point l))
  unfolding scanned before_point after_point
  before [] n any N = ended negative n 0 any false N (omega arith)
  before (c ∷ l) n any N = go (eqb c 46) refl (is_digit c) refl (dec_lt n (10 ^ 17)) (before l (10 * n + (c - 48)) true)
    where
      m : ℕ
      m = 10 * n + (c - 48)

      go :
          (a : Bool) → eqb c 46 ≡ a → (b : Bool) → is_digit c ≡ b → Dec (n < 10 ^ 17) →
          (m < 10 ^ 18 → finished negative (Some (so_far m 0 true false)) l ≡ made negative m true 0 (digits_in l) (length (after_point l))) →
          finished negative (with_byte (so_far n 0 any false) c) l ≡ made negative n any 0 (cond a [] (c ∷ before_point l) ++ cond a l (after_point l)) (length (cond a l (after_point l)))
      go true t b e x ih = ap (λ s. finished negative s l) (points n any c (eqb-true c 46 t)) ∙ after l n 0 any N (omega arith)
      go false t false e x ih = spoilt_is _ l (spoils n 0 any false c e (λ w. absurd (eqb-false c 46 t w))) ∙ sym (no_digit negative n any 0 c (digits_in l) (length (after_point l)) e)
      go false t true e (no x) ih =
          spoilt_is _ l (fills n 0 any false c e (inl (omega arith)))
          ∙ sym (digit negative n any 0 c (digits_in l) (length (after_point l)) e ∙ too_large negative m true 0 (digits_in l) (length (after_point l)) (omega arith))
      go false t true e (yes x) ih =
          let d = digit_le c e in
          ap (λ s. finished negative s l) (adds n 0 any false c e x (omega arith)) ∙ ih (omega arith) ∙ sym (digit negative n any 0 c (digits_in l) (length (after_point l)) e)

  pub read : (l : List ℕ) → option_and_then (number_of negative) (scanned unread l) ≡ unsigned_in negative l
  unfolding unsigned_in is_unsigned
  read l =
      before l 0 false (omega arith)
      ∙ ap (λ j. cond (all_digits (digits_in l) && ltb 0 (length (digits_in l)) && ltb (value_from 0 (digits_in l)) (10 ^ 18) && leb j 18) (Some (record { negative = negative; digits = value_from 0 (digits_in l); places = j })) None) (zero-add (length (after_point l)))

-- ---- the sign
pub signed :
    (l : List ℕ) →
    number_in l ≡ cond (eqb (get_or l 0 0) 45) (unsigned_in true (drop 1 l)) (cond (eqb (get_or l 0 0) 43) (unsigned_in false (drop 1 l)) (unsigned_in false l))
unfolding number_in unsigned_in is_unsigned all_digits before_point after_point value_from
signed [] = refl
signed (c ∷ l) = refl

-- ---- what can be written
pub written_most : (d : Decimal) → is_written d ≡ true → (d.digits < 10 ^ 18) × (d.places ≤ 18)
written_most d e =
    (ltb-true d.digits (10 ^ 18) (and_left (ltb d.digits (10 ^ 18)) (leb d.places 18) e), leb-true d.places 18 (and_right (ltb d.digits (10 ^ 18)) (leb d.places 18) e))
