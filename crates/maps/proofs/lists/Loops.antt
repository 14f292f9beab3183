-- What a `for` takes of `loop`: it starts at x, a turn at m gives what it has at m + 1, and what
-- each turn keeps holds at the end. Assumes nothing.
use Rattle.std.proofs.Common.{◌≡◌, ℕ, zero, suc, ◌+◌, ◌-◌, ◌<◌, ◌≤◌, ap, ◌∙◌, subst, arith}
use Rattle.maps.specs.Loop.{times, loop}

module _ {A : Type 0} (a : ℕ) (f : ℕ → A → A) (x : A) where
  pub loop_start : x ≡ loop a a f x
  unfolding times loop
  loop_start = let e : 0 ≡ a - a = omega arith in ap (λ (k : ℕ). times f a k x) e

  pub loop_turn : (m : ℕ) {y z : A} → a ≤ m → y ≡ loop a m f x → z ≡ f m y → z ≡ loop a (m + 1) f x
  unfolding times loop
  loop_turn m h p q =
      let e : suc (m - a) ≡ m + 1 - a = omega arith in
      let d : m ≡ a + (m - a) = omega arith in
      q ∙ (ap (f m) p ∙ (ap (λ (k : ℕ). f k (times f a (m - a) x)) d ∙ ap (λ (k : ℕ). times f a k x) e))

  -- what holds before the first turn and is kept by each turn holds after the last
  times_keep :
      (I : ℕ → A → Type 0) (k : ℕ) → I a x → ((m : ℕ) (y : A) → a ≤ m → m < a + k → I m y → I (m + 1) (f m y)) → I (a + k) (times f a k x)
  unfolding times
  times_keep I zero start turn = let e : a ≡ a + zero = omega arith in subst (λ (i : ℕ). I i x) e start
  times_keep I (suc k) start turn =
      let r = times_keep I k start (λ m y p q t. turn m y p (omega arith) t) in
      let e : a + k + 1 ≡ a + suc k = omega arith in
      subst (λ (i : ℕ). I i (f (a + k) (times f a k x))) e (turn (a + k) (times f a k x) (omega arith) (omega arith) r)

  pub loop_keeps :
      (I : ℕ → A → Type 0) (b : ℕ) → a ≤ b → I a x → ((m : ℕ) (y : A) → a ≤ m → m < b → I m y → I (m + 1) (f m y)) → I b (loop a b f x)
  unfolding times loop
  loop_keeps I b h start turn =
      let e : a + (b - a) ≡ b = omega arith in
      subst (λ (i : ℕ). I i (times f a (b - a) x)) e (times_keep I (b - a) start (λ m y p q t. turn m y p (omega arith) t))
