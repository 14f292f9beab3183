-- Journals heard by computation, on any worksheet and over any files. Assumes nothing.
use Rattle.std.proofs.Common.{ℕ, Bool, true, false, List, [], ◌∷◌, ◌≡◌, refl}
use lib.Ieee.{le, round}
use Rattle.base.specs.Single.{decimal, minus_decimal}
use Rattle.base.specs.Ranges.{month_check, hour_check, latitude_check, longitude_check, model_check}
use Rattle.worksheet.specs.declared.desks.Worksheet.{Worksheet}
use Rattle.worksheet.specs.Inputs.{sunspot_check, factor_check, flag_check, route_check, factors_check, pole_check, inputs_check}
use Rattle.worksheet.specs.Desks.{draft_at, with_draft, outcome, desk_check, closed_check, fresh_sheet, open_of, begin_check, begin_of}
use Rattle.worksheet.specs.Showing.{Source}
use Rattle.worksheet.specs.Journal.{step}
use Rattle.wording.specs.declared.number.Decimal.{Decimal}
use Rattle.wording.specs.declared.written.WrittenCall.TheVariants.{Begin}
use Rattle.wording.specs.declared.written.WrittenInputs.{WrittenInputs}
use Rattle.wording.specs.Number.{all_digits, value_from, before_point, after_point, is_unsigned, unsigned_in, number_in, float_of}
use Rattle.wording.specs.Token.{ascii, uncommented, words_from, word_named, token_of, first_tokens, tokens_of, token_at}
use Rattle.wording.specs.Line.{usual_factors, usual_pole, whole_at, pair_fit, route_fit, route_at, route_end, head_fit, factors_start, pole_start, model_start, open_end, factors_fit, pole_fit, models_fit, open_fit, opening_factors, opening_pole, opening_model, opening_at, deed_line, word_line, number_line, line_in}
use Rattle.wording.specs.Written.{route_written, factors_written, pole_written, inputs_written, call_written}
use Rattle.listing.specs.Text.{digit_of, has_digit, digit_at, digits_below}
use Rattle.listing.specs.Reason.{refused_words}
use Rattle.listing.specs.Survey.{refused_line}
use Rattle.listing.specs.Spoken.{line_mark, verdict_words, spoken_text, spoken_verdict, inputs_asked}
use Rattle.listing.specs.Fault.{unopened_text}
use Rattle.sitting.specs.declared.Sitting.{Sitting}
use Rattle.sitting.specs.declared.Sitting.TheVariants.{Waiting, Open, Ended}
use Rattle.sitting.specs.Sitting.{Hearing, hearing}
use Rattle.auditing.specs.Gathered.{Told, waiting, sits, told_from}
use Rattle.results.specs.Heard.{heard_from}

-- ---- what is open to computation

told : List (List ℕ) → Told
unfolding told_from all_digits value_from before_point after_point is_unsigned unsigned_in number_in float_of uncommented words_from word_named token_of first_tokens tokens_of token_at whole_at pair_fit route_fit route_at route_end head_fit factors_start pole_start model_start open_end factors_fit pole_fit models_fit open_fit opening_factors opening_pole opening_model opening_at deed_line word_line number_line line_in route_written factors_written pole_written inputs_written sunspot_check factor_check flag_check route_check factors_check pole_check inputs_check month_check hour_check latitude_check longitude_check model_check open_of decimal minus_decimal round le
told ls = told_from 1 waiting ls

heard : Source → Worksheet → List (List ℕ) → Hearing
unfolding heard_from hearing all_digits value_from before_point after_point is_unsigned unsigned_in number_in float_of uncommented words_from word_named token_of first_tokens tokens_of token_at whole_at pair_fit route_fit route_at route_end head_fit factors_start pole_start model_start open_end factors_fit pole_fit models_fit open_fit opening_factors opening_pole opening_model opening_at deed_line word_line number_line line_in route_written factors_written pole_written inputs_written call_written sunspot_check factor_check flag_check route_check factors_check pole_check inputs_check month_check hour_check latitude_check longitude_check model_check draft_at with_draft outcome desk_check closed_check fresh_sheet open_of begin_check begin_of step spoken_text spoken_verdict inputs_asked line_mark verdict_words refused_line refused_words digits_below digit_at has_digit digit_of decimal minus_decimal round le unopened_text
heard source w ls = heard_from source 1 (Waiting w) ls

abbrev is_open : Sitting → Bool
is_open (Waiting w) = false
is_open (Open w) = true
is_open (Ended w) = false

-- ---- an open, and two calls of which one is refused

abbrev monday : List (List ℕ)
monday =
    ascii "# Monday"
    ∷ ascii "open month 6 sunspot 80 hour 12 from 62.47 6.15 to 64.13 -21.9"
    ∷ ascii "1 begin"
    ∷ ascii "1 begin"
    ∷ []

abbrev plus : ℕ → ℕ → Decimal
plus n k = record { negative = false; digits = n; places = k }

abbrev pub opening : WrittenInputs
opening =
    record {
      month = 6;
      ssn = plus 80 0;
      gmt = plus 12 0;
      route =
          record {
            tlat = plus 6247 2;
            tlong = plus 615 2;
            rlat = plus 6413 2;
            rlong = record { negative = true; digits = 219; places = 1 };
            long_path = 0;
          };
      psc = usual_factors;
      pole = usual_pole;
      model = 0;
    }

monday_told :
    told monday
    ≡ sits opening 2 (record { call = Begin 1; line = 3 } ∷ record { call = Begin 1; line = 4 } ∷ [])
unfolding told
monday_told = refl

module _ (source : Source) (w : Worksheet) where
  monday_heard :
      (is_open (heard source w monday).sitting ≡ true)
      × ((heard source w monday).text
      ≡ ascii "line 2: accepted\nline 3: accepted\nline 4: refused 15 0: the desk has a draft already\n")
  unfolding heard
  monday_heard = (refl, refl)

  -- ---- a call before the open

  early_heard :
      ((heard source w (ascii "1 begin" ∷ [])).sitting ≡ Ended w)
      × ((heard source w (ascii "1 begin" ∷ [])).text ≡ ascii "line 1: no call: a journal begins with open\n")
  unfolding heard
  early_heard = (refl, refl)
