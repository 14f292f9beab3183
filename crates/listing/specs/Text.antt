-- Text put into a lent buffer piece after piece, and whole numbers in decimal digits. Assumes
-- nothing.
use Rattle.std.specs.Prelude.{ℕ, zero, suc, ◌+◌, ◌/◌, ◌%◌, ◌^◌, ◌≡◌, ◌≤◌, Bool, true, cond, List, [], ◌∷◌, ◌++◌, eqb, ltb, length, take}
use Rattle.listing.specs.declared.text.Text.{Text}

-- ---- decimal digits

-- the digit of n for 10 ^ k, in ASCII
unfoldable pub digit_of : ℕ → ℕ → ℕ
digit_of n k = 48 + n / 10 ^ k % 10

-- whether the whole number n is written with a digit for 10 ^ k: its lowest is always there
unfoldable pub has_digit : ℕ → ℕ → Bool
has_digit n k = cond (eqb k 0) true (ltb 0 (n / 10 ^ k))

-- that digit, where there is one
unfoldable pub digit_at : ℕ → ℕ → List ℕ
digit_at n k = cond (has_digit n k) (digit_of n k ∷ []) []

-- the digits for 10 ^ (k - 1) down to 1
unfoldable pub digits_below : ℕ → ℕ → List ℕ
digits_below n zero = []
digits_below n (suc k) = digit_at n k ++ digits_below n k

-- a number of at most 20 digits, as every `u64` is
abbrev pub decimal_of : ℕ → List ℕ
decimal_of n = digits_below n 20

-- ---- on the way: nothing below need be believed

-- Only private contracts and proofs use what follows.

-- there is room for n bytes more
abbrev pub HasRoom : Text → ℕ → Type 0
HasRoom text n = text.len + n ≤ length text.out.now

-- `after` has what `before` has and the piece behind it, in the same buffer
pub record Puts (before : Text) (piece : List ℕ) (after : Text) : Type 0 where
  pub text : take after.len after.out.now ≡ take before.len before.out.now ++ piece
  pub len : after.len ≡ before.len + length piece
  pub size : length after.out.now ≡ length before.out.now
  pub same : after.out.ghost_name ≡ before.out.ghost_name
