-- A number as people write it, and the `f32` that it is. Assumes nothing.
use Rattle.std.specs.Prelude.{Option, Some, None, option_and_then, ℕ, ◌+◌, ◌-◌, ◌*◌, ◌^◌, Bool, true, false, cond, ◌&&◌, List, [], ◌∷◌, ◌++◌, eqb, leb, ltb, length, Float}
use Rattle.std.specs.Bool.{then_some}
use Rattle.std.specs.Float.{nan, binary32}
use Rattle.std.specs.Float.Ieee.{round}
use Rattle.wording.specs.declared.number.Decimal.{Decimal}
use Rattle.wording.specs.declared.number.Scan.{Scan}

-- ---- reading

-- '0' to '9'
abbrev pub is_digit : ℕ → Bool
is_digit c = leb 48 c && leb c 57

unfoldable pub all_digits : List ℕ → Bool
all_digits [] = true
all_digits (c ∷ l) = is_digit c && all_digits l

-- the whole number that digits are, after those that are n
unfoldable pub value_from : ℕ → List ℕ → ℕ
value_from n [] = n
value_from n (c ∷ l) = value_from (10 * n + (c - 48)) l

-- what stands before the first point, and what after it: nothing where there is no point
unfoldable pub before_point : List ℕ → List ℕ
before_point [] = []
before_point (c ∷ l) = cond (eqb c 46) [] (c ∷ before_point l)

unfoldable pub after_point : List ℕ → List ℕ
after_point [] = []
after_point (c ∷ l) = cond (eqb c 46) l (after_point l)

-- the digits of a number, its point left out
abbrev pub digits_in : List ℕ → List ℕ
digits_in l = before_point l ++ after_point l

-- a number without its sign: digits, one at least, with a point among, before or after them or none;
-- at most 18 of them, zeros in front not counted, and at most 18 after the point
unfoldable pub is_unsigned : List ℕ → Bool
is_unsigned l =
    all_digits (digits_in l) && ltb 0 (length (digits_in l))
    && ltb (value_from 0 (digits_in l)) (10 ^ 18) && leb (length (after_point l)) 18

unfoldable pub unsigned_in : Bool → List ℕ → Option Decimal
unsigned_in negative l =
    cond (is_unsigned l)
    (Some (record { negative = negative; digits = value_from 0 (digits_in l); places = length (after_point l) }))
    None

-- with '-' (45), '+' (43) or no sign
unfoldable pub number_in : List ℕ → Option Decimal
number_in [] = None
number_in (c ∷ l) = cond (eqb c 45) (unsigned_in true l) (cond (eqb c 43) (unsigned_in false l) (unsigned_in false (c ∷ l)))

-- ---- its value

-- what reading gives has at most 18 digits, and at most 18 of them after the point
abbrev pub is_written : Decimal → Bool
is_written d = ltb d.digits (10 ^ 18) && leb d.places 18

-- the `f32` nearest to the decimal as written, a tie to the even one, -0 kept: `decimal`, or
-- `minus_decimal`, of base/specs/Single.antt
unfoldable pub float_of : Decimal → Float
float_of d = cond (is_written d) (round binary32 d.negative d.digits (10 ^ d.places)) nan

-- ---- on the way: nothing below need be believed

-- nothing is read yet
abbrev pub unread : Scan
unread = record { digits = 0; places = 0; any = false; point = false }

-- with a digit after what is read, a point after it, any byte after it: none where it is no number,
-- whatever follows
abbrev pub with_digit : Scan → ℕ → Option Scan
with_digit s x =
    cond (ltb s.digits (10 ^ 17) && ltb s.places 18)
    (Some (record { digits = 10 * s.digits + x; places = s.places + cond s.point 1 0; any = true; point = s.point }))
    None

abbrev pub with_point : Scan → Option Scan
with_point s =
    cond s.point None (Some (record { digits = s.digits; places = s.places; any = s.any; point = true }))

abbrev pub with_byte : Scan → ℕ → Option Scan
with_byte s c = cond (is_digit c) (with_digit s (c - 48)) (cond (eqb c 46) (with_point s) None)

unfoldable pub scanned : Scan → List ℕ → Option Scan
scanned s [] = Some s
scanned s (c ∷ l) = option_and_then (λ t. scanned t l) (with_byte s c)

-- what is read, as a number with this sign
abbrev pub number_of : Bool → Scan → Option Decimal
number_of negative s = then_some s.any (record { negative = negative; digits = s.digits; places = s.places })
