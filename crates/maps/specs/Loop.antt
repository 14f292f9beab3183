-- A `for` over a range, as one definition. Assumes nothing.
use Rattle.std.specs.Prelude.{ℕ, zero, suc, ◌+◌, ◌-◌}

-- x after f a, f (a + 1), .., k of them
unfoldable pub times : {A : Type 0} → (ℕ → A → A) → ℕ → ℕ → A → A
times f a zero x = x
times f a (suc k) x = f (a + k) (times f a k x)

-- for m in a..b { x = f(m, x); }
unfoldable pub loop : {A : Type 0} → ℕ → ℕ → (ℕ → A → A) → A → A
loop a b f x = times f a (b - a) x
