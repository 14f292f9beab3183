-- Lines that are written otherwise than they were read, and are the same calls, by computation.
-- Assumes nothing.
use Rattle.std.proofs.Common.{false, ◌≡◌, refl}
use Prim.Native.String.{String}
use Rattle.wording.specs.declared.number.Decimal.{Decimal}
use Rattle.wording.specs.declared.line.Line.TheVariants.{Call}
use Rattle.wording.specs.declared.written.WrittenEdit.TheVariants.{Sunspot}
use Rattle.wording.specs.declared.written.WrittenCall.{WrittenCall}
use Rattle.wording.specs.declared.written.WrittenCall.TheVariants.{Change, Show}
use Rattle.wording.specs.Number.{all_digits, value_from, before_point, after_point, is_unsigned, unsigned_in, number_in}
use Rattle.wording.specs.Token.{ascii, uncommented, words_from, word_named, token_of, first_tokens, tokens_of, token_at}
use Rattle.wording.specs.Line.{change_line, deed_line, word_line, number_line, line_in}
use Rattle.listing.specs.Text.{digit_of, has_digit, digit_at, digits_below}
use Rattle.listing.specs.Decimal.{minus_of}
use Rattle.listing.specs.Written.{places_text, fraction_text, digits_text, number_text, edit_text, deed_text, call_text}

-- a line, its call, and the line that is written
record Rewrites (before : String) (c : WrittenCall) (after : String) : Type 0 where
  reads : line_in (ascii before) ≡ Call c
  writes : call_text c ≡ ascii after
  reads_again : line_in (ascii after) ≡ Call c

abbrev number : Decimal
number = record { negative = false; digits = 9250; places = 2 }

-- a sign, zeros in front, blanks and a comment go; zeros behind stay
tidied : Rewrites " +01\tsunspot  092.50 # by telephone" (Change 1 (Sunspot number)) "1 sunspot 92.50"
unfolding all_digits value_from before_point after_point is_unsigned unsigned_in number_in uncommented words_from word_named token_of first_tokens tokens_of token_at change_line deed_line number_line line_in digit_of has_digit digit_at digits_below minus_of places_text fraction_text digits_text number_text edit_text deed_text call_text
tidied = record { reads = refl; writes = refl; reads_again = refl }

-- what desk 0 shows is the worksheet
sheet_shown_law : Rewrites "0 show" (Show 0) "show"
unfolding all_digits value_from before_point after_point is_unsigned unsigned_in number_in uncommented words_from word_named token_of first_tokens tokens_of token_at deed_line word_line number_line line_in call_text
sheet_shown_law = record { reads = refl; writes = refl; reads_again = refl }
