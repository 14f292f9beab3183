-- Lines of a journal worked out by computation: the line that is meant, or what is wrong with it.
-- Assumes nothing.
use Rattle.std.proofs.Common.{◌≡◌, refl, true, false, [], ◌∷◌, map, ℕ}
use Prim.Native.String.{String}
use Rattle.wording.specs.declared.number.Decimal.{Decimal}
use Rattle.wording.specs.declared.token.Word.TheVariants as word
use Rattle.wording.specs.declared.line.Line.{Line}
use Rattle.wording.specs.declared.line.Line.TheVariants as line
use Rattle.wording.specs.declared.line.Wanted.{Wanted}
use Rattle.wording.specs.declared.line.Wanted.TheVariants.{Start, Deed, Word as AWord, Number, Whole, Model as AModel, Nothing}
use Rattle.wording.specs.declared.written.WrittenRoute.{WrittenRoute}
use Rattle.wording.specs.declared.written.WrittenEdit.TheVariants.{Sunspot, Hour, Path, Psc, Pole, Month, Model}
use Rattle.wording.specs.declared.written.WrittenCall.TheVariants.{Begin, Change, Commit, Cancel, TakeBack, Show}
use Rattle.wording.specs.Number.{all_digits, value_from, before_point, after_point, is_unsigned, unsigned_in, number_in}
use Rattle.wording.specs.Token.{word_place, words, ascii, uncommented, words_from, word_named, token_of, first_tokens, tokens_of, token_at}
use Rattle.wording.specs.Line.{usual_factors, usual_pole, model_fit, whole_at, model_at, pair_fit, four_fit, route_fit, route_at, route_end, factors_at, pole_at, head_fit, factors_start, pole_start, model_start, open_end, factors_fit, pole_fit, models_fit, open_fit, opening_factors, opening_pole, opening_model, opening_at, change_line, deed_line, word_line, number_line, line_in}

-- ---- the words stand in the order of their places

placed : map word_place words ≡ 0 ∷ 1 ∷ 2 ∷ 3 ∷ 4 ∷ 5 ∷ 6 ∷ 7 ∷ 8 ∷ 9 ∷ 10 ∷ 11 ∷ 12 ∷ 13 ∷ 14 ∷ 15 ∷ 16 ∷ 17 ∷ 18 ∷ []
placed = refl

-- ---- what an example opens, and its parts in short

read : String → Line
unfolding all_digits value_from before_point after_point is_unsigned unsigned_in number_in uncommented words_from word_named token_of first_tokens tokens_of token_at model_fit whole_at model_at pair_fit four_fit route_fit route_at route_end factors_at pole_at head_fit factors_start pole_start model_start open_end factors_fit pole_fit models_fit open_fit opening_factors opening_pole opening_model opening_at change_line deed_line word_line number_line line_in
read text = line_in (ascii text)

-- the digits n, k of them after the point, above and below zero
abbrev plus : ℕ → ℕ → Decimal
plus n k = record { negative = false; digits = n; places = k }

abbrev minus : ℕ → ℕ → Decimal
minus n k = record { negative = true; digits = n; places = k }

abbrev wrong : ℕ → Wanted → Line
wrong k wanted = line.Wrong (record { word = k; wanted = wanted })

abbrev to_iceland : ℕ → WrittenRoute
to_iceland long = record { tlat = plus 6247 2; tlong = plus 615 2; rlat = plus 6413 2; rlong = minus 219 1; long_path = long }

-- ---- nothing

blank : read "  " ≡ line.Blank
unfolding read
blank = refl

empty : read "" ≡ line.Blank
unfolding read
empty = refl

comment : read "  # 1 begin" ≡ line.Blank
unfolding read
comment = refl

-- ---- calls

begins : read "1 begin" ≡ line.Call (Begin 1)
unfolding read
begins = refl

begins_with_comment : read "\t1  begin # the first\r" ≡ line.Call (Begin 1)
unfolding read
begins_with_comment = refl

sunspot : read "1 sunspot 92.5" ≡ line.Call (Change 1 (Sunspot (plus 925 1)))
unfolding read
sunspot = refl

hour : read "2 hour 18" ≡ line.Call (Change 2 (Hour (plus 18 0)))
unfolding read
hour = refl

path : read "1 path from 62.47 6.15 to 66 -18.1 long" ≡ line.Call (Change 1 (Path (record { tlat = plus 6247 2; tlong = plus 615 2; rlat = plus 66 0; rlong = minus 181 1; long_path = 1 })))
unfolding read
path = refl

factors : read "1 factors 1 .5 1. 0.7" ≡ line.Call (Change 1 (Psc (record { e = plus 1 0; f1 = plus 5 1; f2 = plus 1 0; es = plus 7 1 })))
unfolding read
factors = refl

pole : read "1 pole 78.5 -69" ≡ line.Call (Change 1 (Pole usual_pole))
unfolding read
pole = refl

month : read "1 month 6" ≡ line.Call (Change 1 (Month 6))
unfolding read
month = refl

ccir : read "1 model ccir" ≡ line.Call (Change 1 (Model 0))
unfolding read
ccir = refl

ursi : read "1 model ursi" ≡ line.Call (Change 1 (Model 1))
unfolding read
ursi = refl

commits : read "1 commit" ≡ line.Call (Commit 1)
unfolding read
commits = refl

cancels : read "1 cancel" ≡ line.Call (Cancel 1)
unfolding read
cancels = refl

shows : read "1 show" ≡ line.Call (Show 1)
unfolding read
shows = refl

shows_all : read "show" ≡ line.Call (Show 0)
unfolding read
shows_all = refl

takes_back : read "take back" ≡ line.Call TakeBack
unfolding read
takes_back = refl

-- ---- an open

opens : read "open month 6 sunspot 80 hour 12 from 62.47 6.15 to 64.13 -21.9" ≡ line.Open (record { month = 6; ssn = plus 80 0; gmt = plus 12 0; route = to_iceland 0; psc = usual_factors; pole = usual_pole; model = 0 })
unfolding read
opens = refl

opens_with_all : read "open month 6 sunspot 80 hour 12 from 62.47 6.15 to 64.13 -21.9 long factors 1 1 1 .7 pole 78.5 -69 model ursi" ≡ line.Open (record { month = 6; ssn = plus 80 0; gmt = plus 12 0; route = to_iceland 1; psc = record { e = plus 1 0; f1 = plus 1 0; f2 = plus 1 0; es = plus 7 1 }; pole = usual_pole; model = 1 })
unfolding read
opens_with_all = refl

-- ---- what is wrong

no_deed : read "1 sunspott 5" ≡ wrong 2 Deed
unfolding read
no_deed = refl

no_number : read "1 sunspot" ≡ wrong 3 Number
unfolding read
no_number = refl

not_a_number : read "1 sunspot x" ≡ wrong 3 Number
unfolding read
not_a_number = refl

one_more : read "1 begin now" ≡ wrong 3 Nothing
unfolding read
one_more = refl

no_desk : read "begin" ≡ wrong 1 Start
unfolding read
no_desk = refl

take_alone : read "take" ≡ wrong 2 (AWord word.Back)
unfolding read
take_alone = refl

month_and_half : read "open month 6.5" ≡ wrong 3 Whole
unfolding read
month_and_half = refl

no_model : read "1 model xyz" ≡ wrong 3 AModel
unfolding read
no_model = refl

desk_too_large : read "4294967296 begin" ≡ wrong 1 Start
unfolding read
desk_too_large = refl
