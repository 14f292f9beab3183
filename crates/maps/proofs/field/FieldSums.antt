-- The arrays of magnetic.rs hold the functions of specs/Magnetic.antt at all of their places, those
-- never written included, and the field summed from the arrays is the field of the closed form. By
-- induction along the two loops: before the order m of the degree n the arrays p and dp hold
-- Legendre's functions for the degrees below n and for the orders below m of the degree n, and 0
-- elsewhere. Assumes nothing.
use Rattle.std.proofs.Common.{◌≡◌, ℕ, zero, suc, ◌+◌, ◌-◌, ◌*◌, ◌<◌, ◌≤◌, ◌⊎◌, List, length, set, replicate, pos, sym, refl, ap, ◌∙◌, ⊎_elim, arith, length-set, get_or-set_other, get_or-set_same, eq-eqb, ne_eqb, Float}
use native.Mathlib.Decide.{dec_lt}
use lib.ListN.{length-replicate, get_or-replicate}
use lib.Ieee.{nan, binary32, neg, of_int}
use Rattle.base.specs.Single.{◌⊕◌, ◌⊖◌, ◌⊗◌, ◌⊘◌, decimal}
use Rattle.base.specs.Fill.{tabulate}
use Rattle.base.specs.declared.angle.Radians.{Radians}
use Rattle.base.proofs.verdicts.Picks.{cond_true, cond_false}
use Rattle.base.proofs.lists.Fills.{run_at}
use Rattle.maps.specs.declared.magnetic.Place.{Place}
use Rattle.maps.specs.declared.magnetic.Element.{Element}
use Rattle.maps.specs.declared.magnetic.Sums.{Sums}
use Rattle.maps.specs.declared.magnetic.Field.{Field}
use Rattle.maps.specs.Loop.{times, loop}
use Rattle.maps.specs.Magnetic.{
  o,
  HC,
  CT,
  G,
  H,
  entry,
  clamped_place,
  sp_of,
  cp_of,
  aor_of,
  p_of,
  dp_of,
  ts_of,
  sumr_of,
  sumt_of,
  sump_of,
  bv_of,
  bn_of,
  bphi_of,
  magfin_of,
  at,
  at7,
  multiple_of,
  multiples_of,
  aor_step,
  powers_of,
  placed_of,
  element_of,
  State,
  state,
  order_of,
  orders_of,
  degree_of,
  expansion_of,
}
use Rattle.maps.proofs.lists.Loops.{loop_start, loop_turn, loop_keeps}
use Rattle.maps.proofs.field.Legendre.{p_diagonal, dp_diagonal, p_below, dp_below, p_above, dp_above}

-- ---- sp, cp and aor

pub sp_filled : (phi : Radians) → (multiples_of phi).sp ≡ tabulate (sp_of phi) 7
unfolding multiples_of multiple_of loop times sp_of tabulate
sp_filled phi = refl

pub cp_filled : (phi : Radians) → (multiples_of phi).cp ≡ tabulate (cp_of phi) 7
unfolding multiples_of multiple_of loop times sp_of tabulate
cp_filled phi = refl

pub aor_filled : (ar : Float) → powers_of ar ≡ tabulate (aor_of ar) 7
unfolding powers_of aor_step loop times aor_of tabulate
aor_filled ar = refl

-- ---- a table of 7 by 7 numbers, one of which is stored

module _ (t : List Float) (n k : ℕ) (v : Float) (b : k < 7) where
  stored : length t ≡ 49 → n < 7 → at7 (set t (n * 7 + k) v) n k ≡ v
  stored l h = get_or-set_same t (n * 7 + k) v nan (omega arith)

  elsewhere : (i m : ℕ) → m < 7 → (i ≡ n → m ≡ k → ⊥) → at7 (set t (n * 7 + k) v) i m ≡ at7 t i m
  elsewhere i m h d = get_or-set_other t (n * 7 + k) (i * 7 + m) v nan (λ e. d (omega arith) (omega arith))

-- t holds f for the degrees below n and for the orders below k of the degree n, and 0 elsewhere
record Holds (f : ℕ → ℕ → Float) (n k : ℕ) (t : List Float) : Type 0 where
  size : length t ≡ 49
  below : (i m : ℕ) → i < n → m < 7 → at7 t i m ≡ f i m
  here : (m : ℕ) → m < k → m < 7 → at7 t n m ≡ f n m
  later : (m : ℕ) → k ≤ m → n < 7 → m < 7 → at7 t n m ≡ o
  above : (i m : ℕ) → n < i → i < 7 → m < 7 → at7 t i m ≡ o

module _ (f : ℕ → ℕ → Float) (n k : ℕ) (t : List Float) (h : Holds f n k t) (a : n < 7) where
  -- one order more
  module _ (v : Float) (b : k < 7) (e : v ≡ f n k) where
    here_more : (m : ℕ) → m < k + 1 → m < 7 → at7 (set t (n * 7 + k) v) n m ≡ f n m
    here_more m p q = elim (dec_lt m k) [
      | yes l ↦ elsewhere t n k v b n m q (λ d c. omega arith) ∙ h.here m l q
      | no l ↦
          let c : m ≡ k = omega arith in
          ap (λ (j : ℕ). at7 (set t (n * 7 + k) v) n j) c ∙ stored t n k v b h.size a ∙ e ∙ ap (f n) (sym c)
    ]

    one_more : Holds f n (k + 1) (set t (n * 7 + k) v)
    one_more =
        record {
          size = length-set t (n * 7 + k) v ∙ h.size;
          below = λ i m p q. elsewhere t n k v b i m q (λ d c. omega arith) ∙ h.below i m p q;
          here = here_more;
          later = λ m p r q. elsewhere t n k v b n m q (λ d c. omega arith) ∙ h.later m (omega arith) r q;
          above = λ i m p r q. elsewhere t n k v b i m q (λ d c. omega arith) ∙ h.above i m p r q;
        }

  -- the next degree
  module _ (full : k ≡ n + 1) (zeros : (m : ℕ) → n < m → f n m ≡ o) where
    row : (m : ℕ) → m < 7 → at7 t n m ≡ f n m
    row m q = elim (dec_lt m k) [
      | yes l ↦ h.here m l q
      | no l ↦ h.later m (omega arith) a q ∙ sym (zeros m (omega arith))
    ]

    below_more : (i m : ℕ) → i < n + 1 → m < 7 → at7 t i m ≡ f i m
    below_more i m p q = elim (dec_lt i n) [
      | yes l ↦ h.below i m l q
      | no l ↦
          let c : i ≡ n = omega arith in
          ap (λ (j : ℕ). at7 t j m) c ∙ row m q ∙ ap (λ (j : ℕ). f j m) (sym c)
    ]

    next_degree : Holds f (n + 1) 0 t
    next_degree =
        record {
          size = h.size;
          below = below_more;
          here = λ m p q. absurd (omega arith);
          later = λ m p r q. h.above (n + 1) m (omega arith) r q;
          above = λ i m p r q. h.above i m (omega arith) r q;
        }

-- ---- the first degree: the arrays are 0, but p[0][0] is 1

abbrev p₀ : List Float
p₀ = set (replicate 49 o) 0 (decimal 10 1)

abbrev dp₀ : List Float
dp₀ = replicate 49 o

zero_at : (i m : ℕ) → i < 7 → m < 7 → at7 dp₀ i m ≡ o
zero_at i m p q = get_or-replicate 49 (i * 7 + m) o nan (omega arith)

zero_in : (i m : ℕ) → i < 7 → m < 7 → 0 < i + m → at7 p₀ i m ≡ o
zero_in i m p q r = elsewhere dp₀ 0 0 (decimal 10 1) (omega arith) i m q (λ d c. omega arith) ∙ zero_at i m p q

module _ (c s : Float) where
  corner : (m : ℕ) → m < 7 → at7 p₀ 0 m ≡ p_of c s 0 m
  unfolding p_of
  corner zero q = refl
  corner (suc m) q = zero_in 0 (suc m) (omega arith) q (omega arith) ∙ sym (p_above c s 0 (suc m) (omega arith))

  p_starts : Holds (p_of c s) 1 0 p₀
  p_starts =
      record {
        size = length-set dp₀ 0 (decimal 10 1) ∙ length-replicate 49 o;
        below = λ i m p q. let e : i ≡ 0 = omega arith in ap (λ (j : ℕ). at7 p₀ j m) e ∙ corner m q ∙ ap (λ (j : ℕ). p_of c s j m) (sym e);
        here = λ m p q. absurd (omega arith);
        later = λ m p r q. zero_in 1 m r q (omega arith);
        above = λ i m p r q. zero_in i m r q (omega arith);
      }

  dp_starts : Holds (dp_of c s) 1 0 dp₀
  unfolding dp_of
  dp_starts =
      record {
        size = length-replicate 49 o;
        below = λ i m p q. let e : i ≡ 0 = omega arith in zero_at i m (omega arith) q ∙ ap (λ (j : ℕ). dp_of c s j m) (sym e);
        here = λ m p q. absurd (omega arith);
        later = λ m p r q. zero_at 1 m r q;
        above = λ i m p r q. zero_at i m r q;
      }

-- ---- an element from the degrees below

abbrev element : Float → Float → Element
element p dp = record { p = p; dp = dp }

module _ (c s : Float) (p dp : List Float) where
  on_diagonal :
      (ct : Float) (k : ℕ) → at7 p k k ≡ p_of c s k k → at7 dp k k ≡ dp_of c s k k →
      element_of c s ct (suc k) (suc k) p dp ≡ element (p_of c s (suc k) (suc k)) (dp_of c s (suc k) (suc k))
  unfolding element_of
  on_diagonal ct k e d =
      let i : suc k - 1 ≡ k = omega arith in
      let a : at7 p (suc k - 1) (suc k - 1) ≡ p_of c s k k = ap (λ (j : ℕ). at7 p j j) i ∙ e in
      let b : at7 dp (suc k - 1) (suc k - 1) ≡ dp_of c s k k = ap (λ (j : ℕ). at7 dp j j) i ∙ d in
      let x : s ⊗ at7 p (suc k - 1) (suc k - 1) ≡ p_of c s (suc k) (suc k) = ap (λ (z : Float). s ⊗ z) a ∙ sym (p_diagonal c s k) in
      let y : s ⊗ at7 dp (suc k - 1) (suc k - 1) ⊕ c ⊗ at7 p (suc k - 1) (suc k - 1) ≡ dp_of c s (suc k) (suc k) =
      (λ t. s ⊗ b t ⊕ c ⊗ a t) ∙ sym (dp_diagonal c s k) in
      cond_true _ _ (eq-eqb (suc k) (suc k) refl) ∙ (λ t. element (x t) (y t))

  under_diagonal :
      (k m : ℕ) → m ≤ suc k → ((i : ℕ) → i < suc (suc k) → at7 p i m ≡ p_of c s i m) → ((i : ℕ) → i < suc (suc k) → at7 dp i m ≡ dp_of c s i m) →
      element_of c s (entry CT (suc (suc k)) m) (suc (suc k)) m p dp ≡ element (p_of c s (suc (suc k)) m) (dp_of c s (suc (suc k)) m)
  unfolding element_of
  under_diagonal k m h e d =
      let ct : Float = entry CT (suc (suc k)) m in
      let i : suc (suc k) - 1 ≡ suc k = omega arith in
      let j : suc (suc k) - 2 ≡ k = omega arith in
      let a : at7 p (suc (suc k) - 1) m ≡ p_of c s (suc k) m = ap (λ (z : ℕ). at7 p z m) i ∙ e (suc k) (omega arith) in
      let b : at7 p (suc (suc k) - 2) m ≡ p_of c s k m = ap (λ (z : ℕ). at7 p z m) j ∙ e k (omega arith) in
      let f : at7 dp (suc (suc k) - 1) m ≡ dp_of c s (suc k) m = ap (λ (z : ℕ). at7 dp z m) i ∙ d (suc k) (omega arith) in
      let g : at7 dp (suc (suc k) - 2) m ≡ dp_of c s k m = ap (λ (z : ℕ). at7 dp z m) j ∙ d k (omega arith) in
      let x : c ⊗ at7 p (suc (suc k) - 1) m ⊖ ct ⊗ at7 p (suc (suc k) - 2) m ≡ p_of c s (suc (suc k)) m =
      (λ t. c ⊗ a t ⊖ ct ⊗ b t) ∙ sym (p_below c s k m h) in
      let y : c ⊗ at7 dp (suc (suc k) - 1) m ⊖ s ⊗ at7 p (suc (suc k) - 1) m ⊖ ct ⊗ at7 dp (suc (suc k) - 2) m ≡ dp_of c s (suc (suc k)) m =
      (λ t. c ⊗ f t ⊖ s ⊗ a t ⊖ ct ⊗ g t) ∙ sym (dp_below c s k m h) in
      cond_false _ _ (ne_eqb (suc (suc k)) m (λ q. omega arith))
      ∙ cond_false _ _ (ne_eqb (suc (suc k)) 1 (λ q. omega arith))
      ∙ (λ t. element (x t) (y t))

  module _ (n m : ℕ) (lowp : (i j : ℕ) → i < n → j < 7 → at7 p i j ≡ p_of c s i j) (lowd : (i j : ℕ) → i < n → j < 7 → at7 dp i j ≡ dp_of c s i j) where
    element_diagonal :
        (k : ℕ) → n ≡ suc k → m ≡ n → n < 7 → element_of c s (entry CT n m) n m p dp ≡ element (p_of c s n m) (dp_of c s n m)
    element_diagonal k e d b =
        let w : m ≡ suc k = d ∙ e in
        let r : element_of c s (entry CT n m) (suc k) (suc k) p dp ≡ element (p_of c s (suc k) (suc k)) (dp_of c s (suc k) (suc k)) =
        on_diagonal (entry CT n m) k (lowp k k (omega arith) (omega arith)) (lowd k k (omega arith) (omega arith)) in
        (λ t. element_of c s (entry CT n m) (e t) (w t) p dp) ∙ r ∙ (λ t. element (p_of c s (sym e t) (sym w t)) (dp_of c s (sym e t) (sym w t)))

element_is :
    (c s : Float) (p dp : List Float) (n m : ℕ) → 1 ≤ n → n < 7 → m ≤ n →
    ((i j : ℕ) → i < n → j < 7 → at7 p i j ≡ p_of c s i j) → ((i j : ℕ) → i < n → j < 7 → at7 dp i j ≡ dp_of c s i j) →
    element_of c s (entry CT n m) n m p dp ≡ element (p_of c s n m) (dp_of c s n m)
unfolding element_of p_of dp_of
element_is c s p dp zero m a b h lowp lowd = absurd (omega arith)
element_is c s p dp (suc zero) zero a b h lowp lowd = refl
element_is c s p dp (suc zero) (suc m) a b h lowp lowd =
    element_diagonal c s p dp 1 (suc m) lowp lowd 0 refl (omega arith) (omega arith)
element_is c s p dp (suc (suc k)) m a b h lowp lowd = elim (dec_lt m (suc (suc k))) [
  | yes l ↦
      under_diagonal c s p dp k m (omega arith)
      (λ i q. lowp i m q (omega arith))
      (λ i q. lowd i m q (omega arith))
  | no l ↦ element_diagonal c s p dp (suc (suc k)) m lowp lowd (suc k) refl (omega arith) (omega arith)
]

-- ---- the two tables along the loops

abbrev start : State Field
start = state p₀ dp₀ (record { bv = o; bn = o; bphi = o })

-- t holds f for the degrees up to n, and 0 at its other places, those above the diagonal among them
pub record Filled (f : ℕ → ℕ → Float) (n : ℕ) (t : List Float) : Type 0 where
  pub size : length t ≡ 49
  pub written : (i m : ℕ) → i ≤ n → m ≤ i → at7 t i m ≡ f i m
  pub never : (i m : ℕ) → i < 7 → m < 7 → (n < i) ⊎ (i < m) → at7 t i m ≡ o

filled :
    (f : ℕ → ℕ → Float) (n : ℕ) (t : List Float) → ((i m : ℕ) → i < m → f i m ≡ o) → n ≤ 6 → Holds f (n + 1) 0 t → Filled f n t
filled f n t zeros b h =
    record {
      size = h.size;
      written = λ i m p q. h.below i m (omega arith) (omega arith);
      never = λ i m p q r. elim (dec_lt n i) [
        | yes l ↦ over i m p q l
        | no l ↦ h.below i m (omega arith) q ∙ zeros i m (⊎_elim (λ d. absurd (omega arith)) (λ d. d) r)
      ];
    }
  where
    over : (i m : ℕ) → i < 7 → m < 7 → n < i → at7 t i m ≡ o
    over i m p q l = elim (dec_lt (n + 1) i) [
      | yes d ↦ h.above i m d p q
      | no d ↦ let e : i ≡ n + 1 = omega arith in ap (λ (j : ℕ). at7 t j m) e ∙ h.later m (omega arith) (omega arith) q
    ]

module _ (x : Place) where
  abbrev P : ℕ → ℕ → Float
  P = p_of x.c x.s

  abbrev D : ℕ → ℕ → Float
  D = dp_of x.c x.s

  -- before the order m of the degree n
  record Tables (n m : ℕ) (p dp : List Float) : Type 0 where
    p_holds : Holds P n m p
    dp_holds : Holds D n m dp

  module _ (n : ℕ) (a : 1 ≤ n) (b : n < 7) where
    module _ (m : ℕ) (w : State Sums) (h : m ≤ n) (q : Tables n m w.p w.dp) where
      abbrev stores : Element
      stores = element_of x.c x.s (entry CT n m) n m w.p w.dp

      order_element : stores ≡ element (P n m) (D n m)
      order_element = element_is x.c x.s w.p w.dp n m a b h q.p_holds.below q.dp_holds.below

      order_tables : Tables n (m + 1) (order_of x n m w).p (order_of x n m w).dp
      unfolding order_of
      order_tables =
          let e = order_element in
          record {
            p_holds = one_more P n m w.p q.p_holds b stores.p (omega arith) (λ t. (e t).p);
            dp_holds = one_more D n m w.dp q.dp_holds b stores.dp (omega arith) (λ t. (e t).dp);
          }

    orders_tables : (p dp : List Float) → Tables n 0 p dp → Tables n (n + 1) (orders_of x n p dp).p (orders_of x n p dp).dp
    unfolding orders_of
    orders_tables p dp q =
        loop_keeps 0 (order_of x n) (state p dp (record { sumr = o; sumt = o; sump = o }))
        (λ m w. Tables n m w.p w.dp) (n + 1) (omega arith) q
        (λ m w z l r. order_tables m w (omega arith) r)

    degree_tables : (w : State Field) → Tables n 0 w.p w.dp → Tables (n + 1) 0 (degree_of x n w).p (degree_of x n w).dp
    unfolding degree_of
    degree_tables w q =
        let k = orders_tables w.p w.dp q in
        record {
          p_holds = next_degree P n (n + 1) _ k.p_holds b refl (p_above x.c x.s n);
          dp_holds = next_degree D n (n + 1) _ k.dp_holds b refl (dp_above x.c x.s n);
        }

  start_tables : Tables 1 0 p₀ dp₀
  start_tables = record { p_holds = p_starts x.c x.s; dp_holds = dp_starts x.c x.s }

  tables : (n : ℕ) → n ≤ 6 → Tables (n + 1) 0 (loop 1 (n + 1) (degree_of x) start).p (loop 1 (n + 1) (degree_of x) start).dp
  tables n h =
      loop_keeps 1 (degree_of x) start (λ m w. Tables m 0 w.p w.dp) (n + 1) (omega arith) start_tables
      (λ m w p q r. degree_tables m p (omega arith) w r)

  -- p and dp after the degree n
  pub p_filled : (n : ℕ) → n ≤ 6 → Filled (p_of x.c x.s) n (loop 1 (n + 1) (degree_of x) start).p
  p_filled n h = filled _ n _ (p_above x.c x.s) h (tables n h).p_holds

  pub dp_filled : (n : ℕ) → n ≤ 6 → Filled (dp_of x.c x.s) n (loop 1 (n + 1) (degree_of x) start).dp
  dp_filled n h = filled _ n _ (dp_above x.c x.s) h (tables n h).dp_holds

-- ---- the sums

module _ (x : Place) (phi : Radians) (ar : Float) where
  abbrev addr : ℕ → ℕ → Float → Float
  addr n m sumr = sumr ⊕ P x n m ⊗ ts_of phi n m

  abbrev addt : ℕ → ℕ → Float → Float
  addt n m sumt = sumt ⊕ D x n m ⊗ ts_of phi n m

  abbrev addp : ℕ → ℕ → Float → Float
  addp n m sump = sump ⊕ of_int binary32 (pos m) ⊗ P x n m ⊗ (neg (entry G n m) ⊗ sp_of phi m ⊕ entry H n m ⊗ cp_of phi m)

  abbrev addv : ℕ → Float → Float
  addv n bv = bv ⊕ aor_of ar n ⊗ of_int binary32 (pos (n + 1)) ⊗ sumr_of x.c x.s phi n

  abbrev addn : ℕ → Float → Float
  addn n bn = bn ⊖ aor_of ar n ⊗ sumt_of x.c x.s phi n

  abbrev addphi : ℕ → Float → Float
  addphi n bphi = bphi ⊖ aor_of ar n ⊗ sump_of x.c x.s phi n

  -- before the order m of the degree n
  record Ordered (n m : ℕ) (w : State Sums) : Type 0 where
    held : Tables x n m w.p w.dp
    sumr_is : w.sums.sumr ≡ loop 0 m (addr n) o
    sumt_is : w.sums.sumt ≡ loop 0 m (addt n) o
    sump_is : w.sums.sump ≡ loop 0 m (addp n) o

  -- before the degree n
  record Summed (n : ℕ) (w : State Field) : Type 0 where
    held : Tables x n 0 w.p w.dp
    bv_is : w.sums.bv ≡ loop 1 n addv o
    bn_is : w.sums.bn ≡ loop 1 n addn o
    bphi_is : w.sums.bphi ≡ loop 1 n addphi o

  module _
      (sp_is : (m : ℕ) → m < 7 → at x.sp m ≡ sp_of phi m)
      (cp_is : (m : ℕ) → m < 7 → at x.cp m ≡ cp_of phi m)
      (aor_is : (n : ℕ) → n < 7 → at x.aor n ≡ aor_of ar n) where
    order_more : (n m : ℕ) (w : State Sums) → 1 ≤ n → n < 7 → m ≤ n → Ordered n m w → Ordered n (m + 1) (order_of x n m w)
    unfolding order_of ts_of
    order_more n m w a b h q =
        let e = order_element x n a b m w h q.held in
        let s = sp_is m (omega arith) in
        let c = cp_is m (omega arith) in
        record {
          held = order_tables x n a b m w h q.held;
          sumr_is = loop_turn 0 (addr n) o m (omega arith) q.sumr_is (λ t. w.sums.sumr ⊕ (e t).p ⊗ (entry G n m ⊗ c t ⊕ entry H n m ⊗ s t));
          sumt_is = loop_turn 0 (addt n) o m (omega arith) q.sumt_is (λ t. w.sums.sumt ⊕ (e t).dp ⊗ (entry G n m ⊗ c t ⊕ entry H n m ⊗ s t));
          sump_is = loop_turn 0 (addp n) o m (omega arith) q.sump_is (λ t. w.sums.sump ⊕ of_int binary32 (pos m) ⊗ (e t).p ⊗ (neg (entry G n m) ⊗ s t ⊕ entry H n m ⊗ c t));
        }

    orders_summed : (n : ℕ) (p dp : List Float) → 1 ≤ n → n < 7 → Tables x n 0 p dp → Ordered n (n + 1) (orders_of x n p dp)
    unfolding orders_of
    orders_summed n p dp a b h =
        loop_keeps 0 (order_of x n) (state p dp (record { sumr = o; sumt = o; sump = o })) (Ordered n) (n + 1) (omega arith)
        (record { held = h; sumr_is = loop_start 0 (addr n) o; sumt_is = loop_start 0 (addt n) o; sump_is = loop_start 0 (addp n) o })
        (λ m w z l q. order_more n m w a b (omega arith) q)

    degree_more : (n : ℕ) (w : State Field) → 1 ≤ n → n < 7 → Summed n w → Summed (n + 1) (degree_of x n w)
    unfolding degree_of sumr_of sumt_of sump_of
    degree_more n w a b q =
        let k = orders_summed n w.p w.dp a b q.held in
        let u = aor_is n b in
        record {
          held = degree_tables x n a b w q.held;
          bv_is = loop_turn 1 addv o n a q.bv_is (λ t. w.sums.bv ⊕ u t ⊗ of_int binary32 (pos (n + 1)) ⊗ k.sumr_is t);
          bn_is = loop_turn 1 addn o n a q.bn_is (λ t. w.sums.bn ⊖ u t ⊗ k.sumt_is t);
          bphi_is = loop_turn 1 addphi o n a q.bphi_is (λ t. w.sums.bphi ⊖ u t ⊗ k.sump_is t);
        }

    degrees_summed : Summed 7 (loop 1 7 (degree_of x) start)
    degrees_summed =
        loop_keeps 1 (degree_of x) start Summed 7 (omega arith)
        (record { held = start_tables x; bv_is = loop_start 1 addv o; bn_is = loop_start 1 addn o; bphi_is = loop_start 1 addphi o })
        degree_more

-- ---- at a place

module _ (lat east_lon : Radians) (height_m : Float) where
  abbrev place : Place
  place = placed_of lat east_lon height_m

  abbrev phi : Radians
  phi = (clamped_place lat east_lon).p2

  abbrev ar : Float
  ar = HC ⊘ (HC ⊕ height_m)

  sp_at : (m : ℕ) → m < 7 → at place.sp m ≡ sp_of phi m
  unfolding placed_of
  sp_at m h = ap (λ (l : List Float). at l m) (sp_filled phi) ∙ run_at (sp_of phi) 7 m nan h

  cp_at : (m : ℕ) → m < 7 → at place.cp m ≡ cp_of phi m
  unfolding placed_of
  cp_at m h = ap (λ (l : List Float). at l m) (cp_filled phi) ∙ run_at (cp_of phi) 7 m nan h

  aor_at : (n : ℕ) → n < 7 → at place.aor n ≡ aor_of ar n
  unfolding placed_of
  aor_at n h = ap (λ (l : List Float). at l n) (aor_filled ar) ∙ run_at (aor_of ar) 7 n nan h

  -- the sums from the arrays are those of the closed form
  pub field_sums :
      expansion_of place
      ≡ record { bv = bv_of place.c place.s phi ar; bn = bn_of place.c place.s phi ar; bphi = bphi_of place.c place.s phi ar }
  unfolding expansion_of bv_of bn_of bphi_of
  field_sums =
      let q = degrees_summed place phi ar sp_at cp_at aor_at in
      λ t. record { bv = q.bv_is t; bn = q.bn_is t; bphi = q.bphi_is t }

  -- the field is that of the arrays
  pub magfin_arrays :
      magfin_of lat east_lon height_m
      ≡ record { up = neg (expansion_of place).bv; north = (expansion_of place).bn; east = neg (expansion_of place).bphi ⊘ place.s }
  unfolding magfin_of placed_of
  magfin_arrays = let e = sym field_sums in λ t. record { up = neg (e t).bv; north = (e t).bn; east = neg (e t).bphi ⊘ place.s }
