-- The lines of a list of numbers: nine bytes for each, in order; and the hexadecimal digits, by
-- computation. Assumes nothing.
use Rattle.std.proofs.Common.{◌≡◌, refl, sym, ap, ◌∙◌, List, [], ◌∷◌, ◌++◌, map, ℕ, ◌+◌, ◌*◌, ◌^◌, ◌≤◌, ◌<◌, add-one, arith, length, get_or, drop, length-append, drop_of_length-le, drop-cons, Float}
use lib.Ieee.{nan}
use Rattle.wording.specs.Token.{ascii}
use Rattle.listing.specs.Answer.{glyph_of, hex_of, line_of, lines_of, points_text}
use Rattle.listing.proofs.digits.Places.{at_most_10}

pub length_line : (x : Float) → length (line_of x) ≡ 9
unfolding line_of hex_of
length_line x = refl

pub length_lines : (xs : List Float) → length (lines_of xs) ≡ 9 * length xs
unfolding lines_of
length_lines [] = refl
length_lines (x ∷ xs) =
    let a = length_line x in
    let b = length_lines xs in
    length-append (line_of x) (lines_of xs) ∙ omega arith

pub length_points : (count : ℕ) (xs : List Float) → count < 2 ^ 32 → length (points_text count xs) ≤ 18 + 9 * length xs
unfolding points_text
length_points count xs h =
    let a = at_most_10 count h in
    let b = length_lines xs in
    simp length-append (omega arith)

-- the lines from the one of number k on
pub lines_from : (xs : List Float) (k : ℕ) → k < length xs → lines_of (drop k xs) ≡ line_of (get_or xs k nan) ++ lines_of (drop (k + 1) xs)
unfolding lines_of
lines_from xs k h = ap lines_of (drop-cons xs k nan h ∙ ap (λ (n : ℕ). get_or xs k nan ∷ drop n xs) (sym (add-one k)))

pub no_lines : (xs : List Float) (k : ℕ) → length xs ≤ k → lines_of (drop k xs) ≡ []
unfolding lines_of
no_lines xs k h = ap lines_of (drop_of_length-le xs {i = k} h)

-- ---- by computation

sixteen_digits : map glyph_of (0 ∷ 1 ∷ 2 ∷ 3 ∷ 4 ∷ 5 ∷ 6 ∷ 7 ∷ 8 ∷ 9 ∷ 10 ∷ 11 ∷ 12 ∷ 13 ∷ 14 ∷ 15 ∷ []) ≡ ascii "0123456789abcdef"
unfolding glyph_of
sixteen_digits = refl
