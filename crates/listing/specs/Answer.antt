-- Text of answers. Assumes nothing.
use Rattle.std.specs.Prelude.{ℕ, ◌+◌, ◌/◌, ◌%◌, ◌^◌, cond, List, [], ◌∷◌, ◌++◌, ltb, Float, Err, Ok, Result}
use Rattle.std.specs.Float.{binary32}
use Rattle.std.specs.Float.Ieee.{to_bits}
use Rattle.base.specs.declared.refusal.Refusal.{Refusal}
use Rattle.base.specs.Refusal.{Verdict}
use Rattle.base.specs.Refusal.{report_of}
use Rattle.wording.specs.Token.{ascii}
use Rattle.listing.specs.Text.{decimal_of}

-- ---- the lines of a sheet

-- a hexadecimal digit in ASCII: 0 to 9, then a to f
unfoldable pub glyph_of : ℕ → ℕ
glyph_of d = cond (ltb (d % 16) 10) (48 + d % 16) (87 + d % 16)

-- the eight hexadecimal digits of a word, the highest first
unfoldable pub hex_of : ℕ → List ℕ
hex_of w =
    glyph_of (w / 16 ^ 7)
    ∷ glyph_of (w / 16 ^ 6)
    ∷ glyph_of (w / 16 ^ 5)
    ∷ glyph_of (w / 16 ^ 4)
    ∷ glyph_of (w / 16 ^ 3)
    ∷ glyph_of (w / 16 ^ 2)
    ∷ glyph_of (w / 16)
    ∷ glyph_of w
    ∷ []

-- 'lines of eight lowercase hexadecimal digits, the f32 bits, any NaN as 7fc00000'
unfoldable pub line_of : Float → List ℕ
line_of x = hex_of (to_bits binary32 x) ++ ascii "\n"

-- a line for each number
unfoldable pub lines_of : List Float → List ℕ
lines_of [] = []
lines_of (x ∷ xs) = line_of x ++ lines_of xs

-- ---- the answers

-- 'refused', number, place
unfoldable pub refusal_text : Refusal → List ℕ
refusal_text why =
    let p = report_of why in
    ascii "refused " ++ (decimal_of p.0 ++ (ascii " " ++ (decimal_of p.1 ++ ascii "\n")))

-- of a call that shows nothing
unfoldable pub verdict_text : Verdict → List ℕ
verdict_text (Ok _) = ascii "accepted\n"
verdict_text (Err why) = refusal_text why

-- 'points', number, and the lines
unfoldable pub points_text : ℕ → List Float → List ℕ
points_text count figures = ascii "points " ++ (decimal_of count ++ (ascii "\n" ++ lines_of figures))

-- of a showing in a journal
unfoldable pub shown_text : Result ℕ Refusal → List Float → List ℕ
shown_text (Ok count) figures = points_text count figures
shown_text (Err why) figures = refusal_text why

-- of a sheet by itself: no number of points
unfoldable pub sheet_text : Result ℕ Refusal → List Float → List ℕ
sheet_text (Ok count) figures = lines_of figures
sheet_text (Err why) figures = refusal_text why

-- of bytes that make no call: where they start
unfoldable pub stopped_text : ℕ → List ℕ
stopped_text at = ascii "stopped at " ++ (decimal_of at ++ ascii "\n")
