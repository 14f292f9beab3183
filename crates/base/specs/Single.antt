-- The operations of binary32 as signs, each rounded once, and decimals. Assumes nothing.
use Rattle.std.specs.Prelude.{ℕ, ◌^◌, true, false, Float}
use Rattle.std.specs.Float.{binary32}
use Rattle.std.specs.Float.Ieee.{round, add, sub, mul, div}

infixl 60 ◌⊕◌ ◌⊖◌
infixl 70 ◌⊗◌ ◌⊘◌
abbrev pub ◌⊕◌ : Float → Float → Float
x ⊕ y = add binary32 x y

abbrev pub ◌⊖◌ : Float → Float → Float
x ⊖ y = sub binary32 x y

abbrev pub ◌⊗◌ : Float → Float → Float
x ⊗ y = mul binary32 x y

abbrev pub ◌⊘◌ : Float → Float → Float
x ⊘ y = div binary32 x y

-- the `f32` nearest to n / 10 ^ k: 0.25 is decimal 25 2
unfoldable pub decimal : ℕ → ℕ → Float
decimal n k = round binary32 false n (10 ^ k)

-- the `f32` nearest to -n / 10 ^ k
unfoldable pub minus_decimal : ℕ → ℕ → Float
minus_decimal n k = round binary32 true n (10 ^ k)
