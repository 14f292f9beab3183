-- A float in decimal digits for a person to read, from its exact value. Assumes nothing.
use Rattle.std.specs.Prelude.{ℕ, ◌+◌, ◌-◌, ◌*◌, ◌/◌, ◌^◌, Bool, cond, List, [], ◌∷◌, ◌++◌, ltb, Float}
use Rattle.std.specs.Float.{nan, inf, fin}
use Rattle.std.specs.Float.Ieee.{up, down, size}
use Rattle.wording.specs.Token.{ascii}
use Rattle.listing.specs.Text.{digit_of, has_digit, decimal_of}

-- n / d to the nearest whole number, half way up: n / d + 1 / 2 without its fraction
unfoldable pub nearest_of : ℕ → ℕ → ℕ
nearest_of n d = (2 * n + d) / (2 * d)

-- a minus sign or a blank
unfoldable pub sign_text : Bool → ℕ
sign_text negative = cond negative 45 32

-- what stands before the place of 10 ^ k: a digit, the sign just before the first, or a blank
unfoldable pub leading_of : ℕ → Bool → ℕ → ℕ
leading_of n negative k = cond (has_digit n (k + 1)) (digit_of n (k + 1)) (cond (has_digit n k) (sign_text negative) 32)

-- a number of millionths in 16 characters: nine before the point, six after it
unfoldable pub text_of : ℕ → Bool → List ℕ
text_of m negative =
    let n = m / 10 ^ 6 in
    leading_of n negative 7
    ∷ leading_of n negative 6
    ∷ leading_of n negative 5
    ∷ leading_of n negative 4
    ∷ leading_of n negative 3
    ∷ leading_of n negative 2
    ∷ leading_of n negative 1
    ∷ leading_of n negative 0
    ∷ digit_of n 0
    ∷ 46
    ∷ digit_of m 5
    ∷ digit_of m 4
    ∷ digit_of m 3
    ∷ digit_of m 2
    ∷ digit_of m 1
    ∷ digit_of m 0
    ∷ []

-- a minus sign or nothing
unfoldable pub minus_of : Bool → List ℕ
minus_of negative = cond negative (ascii "-") []

-- q * 2 ^ k, as `8388608*2^1`
unfoldable pub scaled_text : Bool → ℕ → ℕ → List ℕ
scaled_text negative q k = minus_of negative ++ (decimal_of q ++ (ascii "*2^" ++ decimal_of k))

-- a whole number of 2 ^ 24 or more: its 24 highest binary digits, and a power of two for the others
unfoldable pub large_text : Bool → ℕ → List ℕ
large_text negative n =
    let k = size n - 24 in
    scaled_text negative (n / 2 ^ k) k

-- a / c: six digits after the point, or from 2 ^ 24 on the whole number
unfoldable pub sized_text : Bool → ℕ → ℕ → List ℕ
sized_text negative a c =
    cond (ltb a (2 ^ 24 * c)) (text_of (nearest_of (a * 10 ^ 6) c) negative) (large_text negative (a / c))

-- the finite number is m * 2 ^ e, which is m * up e / down e
unfoldable pub decimal_text : Float → List ℕ
decimal_text nan = ascii "             nan"
decimal_text (inf negative) = cond negative (ascii "            -inf") (ascii "             inf")
decimal_text (fin negative m e) = sized_text negative (m * up e) (down e)
