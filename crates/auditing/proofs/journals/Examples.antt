-- Worked lines of texts, by computation. Assumes nothing.
use Rattle.std.proofs.Common.{[], ◌∷◌, ◌≡◌, refl}
use Rattle.wording.specs.Token.{ascii}
use Rattle.auditing.specs.Gathered.{lines_from, text_lines, first_line, line_at}

-- what follows the last newline is no line, and an empty line is one
two_lines : text_lines (ascii "show 0\n\n1 beg") ≡ ascii "show 0" ∷ ([] ∷ [])
unfolding lines_from
two_lines = refl

-- by where it begins, a line is what stands there before the next newline, or before the end
line_at_7 : line_at (ascii "show 0\n1 begin\n") 7 ≡ ascii "1 begin"
unfolding first_line
line_at_7 = refl

line_at_the_end : line_at (ascii "show 0\n1 beg") 7 ≡ ascii "1 beg"
unfolding first_line
line_at_the_end = refl

line_past_the_end : line_at (ascii "show 0\n") 9 ≡ []
unfolding first_line
line_past_the_end = refl
