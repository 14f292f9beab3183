-- And the arithmetic below? What is proved of the square root, the elementary functions, `min` and
-- `max` beside their definitions, as statements, each proved in proofs/ElementarySteps.antt.
-- Assumes nothing.
use Rattle.std.specs.Prelude.{◌≡◌, Bool, not, List, [], ◌∷◌, map, ℕ, T, Float}
use Rattle.std.specs.Float.{nan, Format, binary32, binary64}
use Rattle.std.specs.Float.Ieee.{lt, le, eq, is_nan, fits, of_bits}
use Rattle.std.specs.Float.Ieee.Positive.{positive}
use Rattle.base.specs.Double.{fraction}
use Rattle.base.specs.Ranges.{is_to}
use Rattle.base.specs.Number.{abs_of, min_of, max_of, narrow_of, sqrt_of, NearestRoot}
use Rattle.base.specs.Elementary.{sin_terms, cos_terms, atan_terms, exp_terms, ln_terms, sin_of, cos_of, atan_of, acos_of, elementary_functions}

-- ---- demand 2: the square root

-- Of a finite number above 0 of the format no other number of the format lies as near to the true
-- root as the root that is given.
abbrev pub SqrtNearest : Type 0
SqrtNearest = (f : Format) (x : Float) → T (fits f x) → T (positive x) → NearestRoot f x (sqrt_of f x)

-- The f32 root of an f32 may be taken through the f64 root.
abbrev pub SqrtNarrow : Type 0
SqrtNarrow = (x : Float) → T (fits binary32 x) → narrow_of (sqrt_of binary64 x) ≡ sqrt_of binary32 x

-- ---- demand 2: the elementary functions

-- a copy of the code's five tables as bit patterns, the lowest term first: sin, cos, atan, exp, ln
abbrev pub code_terms : List (List ℕ)
code_terms =
    (0x3ff0000000000000 ∷ 0xbfc5555555555555 ∷ 0x3f81111111111111 ∷ 0xbf2a01a01a01a01a
    ∷ 0x3ec71de3a556c734 ∷ 0xbe5ae64567f544e4 ∷ 0x3de6124613a86d09 ∷ 0xbd6ae7f3e733b81f ∷ [])
    ∷ (0x3ff0000000000000 ∷ 0xbfe0000000000000 ∷ 0x3fa5555555555555 ∷ 0xbf56c16c16c16c17
    ∷ 0x3efa01a01a01a01a ∷ 0xbe927e4fb7789f5c ∷ 0x3e21eed8eff8d898 ∷ 0xbda93974a8c07c9d
    ∷ 0x3d2ae7f3e733b81f ∷ [])
    ∷ (0x3ff0000000000000 ∷ 0xbfd5555555555555 ∷ 0x3fc999999999999a ∷ 0xbfc2492492492492
    ∷ 0x3fbc71c71c71c71c ∷ 0xbfb745d1745d1746 ∷ 0x3fb3b13b13b13b14 ∷ [])
    ∷ (0x3ff0000000000000 ∷ 0x3ff0000000000000 ∷ 0x3fe0000000000000 ∷ 0x3fc5555555555555
    ∷ 0x3fa5555555555555 ∷ 0x3f81111111111111 ∷ 0x3f56c16c16c16c17 ∷ 0x3f2a01a01a01a01a
    ∷ 0x3efa01a01a01a01a ∷ 0x3ec71de3a556c734 ∷ 0x3e927e4fb7789f5c ∷ 0x3e5ae64567f544e4
    ∷ 0x3e21eed8eff8d898 ∷ 0x3de6124613a86d09 ∷ [])
    ∷ (0x3ff0000000000000 ∷ 0x3fd5555555555555 ∷ 0x3fc999999999999a ∷ 0x3fc2492492492492
    ∷ 0x3fbc71c71c71c71c ∷ 0x3fb745d1745d1746 ∷ 0x3fb3b13b13b13b14 ∷ 0x3fb1111111111111
    ∷ 0x3fae1e1e1e1e1e1e ∷ 0x3faaf286bca1af28 ∷ 0x3fa8618618618618 ∷ 0x3fa642c8590b2164
    ∷ 0x3fa47ae147ae147b ∷ 0x3fa2f684bda12f68 ∷ 0x3fa1a7b9611a7b96 ∷ 0x3fa0842108421084 ∷ [])
    ∷ []

-- Each of the 54 bit patterns of `code_terms`, a copy of the code's five tables, is the f64 nearest
-- to its fraction; that the code's functions give what the series with these coefficients give is
-- said by their contracts (`sin_series`, `cos_series`, `atan_series`, `exp_within`, `ln_series`).
abbrev pub Tied : Type 0
Tied = map (map (of_bits binary64)) code_terms ≡ sin_terms ∷ cos_terms ∷ atan_terms ∷ exp_terms ∷ ln_terms ∷ []

-- each function gives NaN at a NaN
abbrev pub NanToNan : List (Float → Float) → Type 0
NanToNan [] = Unit
NanToNan (f ∷ fs) = (f nan ≡ nan) × NanToNan fs

-- 'Any NaN gives NaN', of all six functions and the root, in f64 and in f32.
abbrev pub NanAll : Type 0
NanAll = NanToNan elementary_functions

-- Of a number of at most 1000 in size the sine is at most 2 in size.
abbrev pub SinSize : Type 0
SinSize = (v : Float) → T (le (abs_of v) (fraction 1000 1)) → T (le (abs_of (sin_of v)) (fraction 2 1))

-- And the cosine.
abbrev pub CosSize : Type 0
CosSize = (v : Float) → T (le (abs_of v) (fraction 1000 1)) → T (le (abs_of (cos_of v)) (fraction 2 1))

-- Of any number, infinite or not, but NaN the arc tangent is at most 2 in size.
abbrev pub AtanSize : Type 0
AtanSize = (v : Float) → T (not (is_nan v)) → T (le (abs_of (atan_of v)) (fraction 2 1))

-- Of a number of at most 1 in size the arc cosine is from 0 to 4.
abbrev pub AcosRange : Type 0
AcosRange = (v : Float) → T (le (abs_of v) (fraction 1 1)) → T (is_to (fraction 0 1) (fraction 4 1) (acos_of v))

-- ---- demand 2: the lesser and the greater

-- 'Where `min` or `max` meets one NaN it gives the other operand; of equals, the left'; otherwise
-- the one that is `before` the other
pub record Chooses (before : Float → Float → Bool) (pick : Float → Float → Float) : Type 0 where
  pub nan_left : (b : Float) → pick nan b ≡ b
  pub nan_right : (a : Float) → pick a nan ≡ a
  pub equals : (a b : Float) → T (eq a b) → pick a b ≡ a
  pub left : (a b : Float) → T (before a b) → pick a b ≡ a
  pub right : (a b : Float) → T (before b a) → pick a b ≡ b

-- `min` is document 01's sentence, by less.
abbrev pub MinLaw : Type 0
MinLaw = Chooses lt min_of

-- `max` is, by greater.
abbrev pub MaxLaw : Type 0
MaxLaw = Chooses (λ a b. lt b a) max_of

-- And no other function is `min`'s sentence.
abbrev pub MinOnly : Type 0
MinOnly = (f : Float → Float → Float) → Chooses lt f → (a b : Float) → f a b ≡ min_of a b

-- Nor `max`'s.
abbrev pub MaxOnly : Type 0
MaxOnly = (f : Float → Float → Float) → Chooses (λ a b. lt b a) f → (a b : Float) → f a b ≡ max_of a b
