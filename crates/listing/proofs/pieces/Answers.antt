-- Some answers, by computation. Assumes nothing.
use Rattle.std.proofs.Common.{Err, Ok, ◌≡◌, refl, [], ◌∷◌}
use lib.Ieee.{nan, binary32, to_bits, of_bits}
use Rattle.base.specs.declared.refusal.Refusal.TheVariants.{Marker}
use Rattle.wording.specs.Token.{ascii}
use Rattle.listing.specs.Text.{digit_of, has_digit, digit_at, digits_below}
use Rattle.listing.specs.Answer.{glyph_of, hex_of, line_of, lines_of, verdict_text, refusal_text, points_text, shown_text, sheet_text, stopped_text}

accepted : verdict_text (Ok tt) ≡ ascii "accepted\n"
unfolding verdict_text
accepted = refl

refused : shown_text (Err (Marker 38548)) [] ≡ ascii "refused 10 38548\n"
unfolding shown_text refusal_text digits_below digit_at has_digit digit_of
refused = refl

shown : shown_text (Ok 5) (nan ∷ of_bits binary32 0x3f800000 ∷ []) ≡ ascii "points 5\n7fc00000\n3f800000\n"
unfolding shown_text points_text lines_of line_of hex_of glyph_of to_bits of_bits digits_below digit_at has_digit digit_of
shown = refl

lines_alone : sheet_text (Ok 5) (nan ∷ []) ≡ ascii "7fc00000\n"
unfolding sheet_text lines_of line_of hex_of glyph_of to_bits
lines_alone = refl

stopped : stopped_text 46512 ≡ ascii "stopped at 46512\n"
unfolding stopped_text digits_below digit_at has_digit digit_of
stopped = refl
