-- A line of a journal, as docs/PROGRAMS.md has the words of each call. Every form is checked from
-- the left, and the first word that does not fit decides. Assumes nothing.
use Rattle.std.specs.Prelude.{Result, Ok, Err, ℕ, suc, ◌+◌, ◌^◌, Bool, true, false, cond, not, ◌&&◌, List, eqb, ltb}
use Rattle.wording.specs.declared.number.Decimal.{Decimal}
use Rattle.wording.specs.declared.token.Word.{Word}
use Rattle.wording.specs.declared.token.Word.TheVariants as word
use Rattle.wording.specs.declared.token.Token.{Token}
use Rattle.wording.specs.declared.token.Token.TheVariants as token
use Rattle.wording.specs.declared.token.Tokens.{Tokens}
use Rattle.wording.specs.declared.line.Wanted.{Wanted}
use Rattle.wording.specs.declared.line.Wanted.TheVariants.{Start, Deed, Word as AWord, Number, Whole, Model as AModel, Nothing}
use Rattle.wording.specs.declared.line.Fault.{Fault}
use Rattle.wording.specs.declared.line.Line.{Line}
use Rattle.wording.specs.declared.line.Line.TheVariants as line
use Rattle.wording.specs.declared.written.WrittenRoute.{WrittenRoute}
use Rattle.wording.specs.declared.written.WrittenFactors.{WrittenFactors}
use Rattle.wording.specs.declared.written.WrittenPole.{WrittenPole}
use Rattle.wording.specs.declared.written.WrittenInputs.{WrittenInputs}
use Rattle.wording.specs.declared.written.WrittenEdit.{WrittenEdit}
use Rattle.wording.specs.declared.written.WrittenEdit.TheVariants.{Sunspot, Hour, Path, Psc, Pole, Month, Model}
use Rattle.wording.specs.declared.written.WrittenCall.{WrittenCall}
use Rattle.wording.specs.declared.written.WrittenCall.TheVariants.{Begin, Change, Commit, Cancel, TakeBack, Show}
use Rattle.wording.specs.Token.{word_place, tokens_of, token_at}

-- ---- one word

abbrev pub is_named : Word → Token → Bool
is_named x (token.Word y) = eqb (word_place y) (word_place x)
is_named x (token.Number d) = false
is_named x token.Other = false
is_named x token.End = false

abbrev pub is_number : Token → Bool
is_number (token.Word k) = false
is_number (token.Number d) = true
is_number token.Other = false
is_number token.End = false

-- digits without a minus sign and with none after the point, of a number that fits a `u32`
abbrev pub is_whole_decimal : Decimal → Bool
is_whole_decimal d = not d.negative && eqb d.places 0 && ltb d.digits (2 ^ 32)

abbrev pub is_whole : Token → Bool
is_whole (token.Word k) = false
is_whole (token.Number d) = is_whole_decimal d
is_whole token.Other = false
is_whole token.End = false

abbrev pub is_end : Token → Bool
is_end (token.Word k) = false
is_end (token.Number d) = false
is_end token.Other = false
is_end token.End = true

-- 0 as a decimal: what stands for a number that is not there, which no call has
abbrev pub nought : Decimal
nought = record { negative = false; digits = 0; places = 0 }

abbrev pub decimal_in : Token → Decimal
decimal_in (token.Word k) = nought
decimal_in (token.Number d) = d
decimal_in token.Other = nought
decimal_in token.End = nought

-- ---- whether words fit

-- nothing where they do, else the first that does not
abbrev pub Fit : Type 0
Fit = Result (Unit {0}) Fault

abbrev pub Good : Fit
Good = Ok tt

-- the word at place k is the (k + 1)th
abbrev pub fit_unless : Bool → ℕ → Wanted → Fit
fit_unless good k wanted = cond good Good (Err (record { word = suc k; wanted = wanted }))

infixr 20 ◌and_then◌
-- the first that does not fit
abbrev pub ◌and_then◌ : Fit → Fit → Fit
(Ok u) and_then f = f
(Err x) and_then f = Err x

-- ---- what an open has where it says nothing else: '1 1 1 1, 78.5 -69, ccir'

abbrev pub one : Decimal
one = record { negative = false; digits = 1; places = 0 }

abbrev pub usual_factors : WrittenFactors
usual_factors = record { e = one; f1 = one; f2 = one; es = one }

abbrev pub usual_pole : WrittenPole
usual_pole =
    record {
      lat = record { negative = false; digits = 785; places = 1 };
      lon = record { negative = true; digits = 69; places = 0 };
    }

-- ---- a line, if all its words fit

abbrev pub line_if : Fit → Line → Line
line_if (Ok u) l = l
line_if (Err x) l = line.Wrong x

abbrev pub call_if : Fit → WrittenCall → Line
call_if f c = line_if f (line.Call c)

module _ (t : Tokens) where
  -- ---- whether the word at place k fits

  abbrev pub word_fit : ℕ → Word → Fit
  word_fit k w = fit_unless (is_named w (token_at t k)) k (AWord w)

  abbrev pub number_fit : ℕ → Fit
  number_fit k = fit_unless (is_number (token_at t k)) k Number

  abbrev pub whole_fit : ℕ → Fit
  whole_fit k = fit_unless (is_whole (token_at t k)) k Whole

  -- 'ccir or ursi'
  unfoldable pub model_fit : ℕ → Fit
  model_fit k = cond (is_named word.Ccir (token_at t k)) Good (fit_unless (is_named word.Ursi (token_at t k)) k AModel)

  abbrev pub end_fit : ℕ → Fit
  end_fit k = fit_unless (is_end (token_at t k)) k Nothing

  -- ---- the numbers at place k

  abbrev pub decimal_at : ℕ → Decimal
  decimal_at k = decimal_in (token_at t k)

  unfoldable pub whole_at : ℕ → ℕ
  whole_at k = cond (is_whole (token_at t k)) (decimal_at k).digits 0

  -- '(0 CCIR, 1 URSI)'
  unfoldable pub model_at : ℕ → ℕ
  model_at k = cond (is_named word.Ursi (token_at t k)) 1 0

  -- ---- the parts of the inputs, from place k on

  -- two numbers, four numbers
  unfoldable pub pair_fit : ℕ → Fit
  pair_fit k = number_fit k and_then number_fit (k + 1)

  unfoldable pub four_fit : ℕ → Fit
  four_fit k = pair_fit k and_then pair_fit (k + 2)

  -- 'from LAT LON to LAT LON', and 'long' or not
  unfoldable pub route_fit : ℕ → Fit
  route_fit k =
      word_fit k word.From and_then pair_fit (k + 1)
      and_then word_fit (k + 3) word.To and_then pair_fit (k + 4)

  abbrev pub is_long_at : ℕ → Bool
  is_long_at k = is_named word.Long (token_at t (k + 6))

  unfoldable pub route_at : ℕ → WrittenRoute
  route_at k =
      record {
        tlat = decimal_at (k + 1);
        tlong = decimal_at (k + 2);
        rlat = decimal_at (k + 4);
        rlong = decimal_at (k + 5);
        long_path = cond (is_long_at k) 1 0;
      }

  -- the place after it
  unfoldable pub route_end : ℕ → ℕ
  route_end k = cond (is_long_at k) (k + 7) (k + 6)

  -- 'E F1 F2 ES'
  unfoldable pub factors_at : ℕ → WrittenFactors
  factors_at k = record { e = decimal_at k; f1 = decimal_at (k + 1); f2 = decimal_at (k + 2); es = decimal_at (k + 3) }

  -- 'LAT LON'
  unfoldable pub pole_at : ℕ → WrittenPole
  pole_at k = record { lat = decimal_at k; lon = decimal_at (k + 1) }

  -- ---- 'open month 6 sunspot 80 hour 12 from 62.47 6.15 to 64.13 -21.9'; it 'may add `long`,
  -- `factors ..`, `pole ..`, `model ..` (else 1 1 1 1, 78.5 -69, ccir)', in this order

  -- from month to path: the thirteen words after which the others may stand
  unfoldable pub head_fit : Fit
  head_fit =
      word_fit 1 word.Month and_then whole_fit 2 and_then word_fit 3 word.Sunspot and_then number_fit 4
      and_then word_fit 5 word.Hour and_then number_fit 6 and_then route_fit 7

  -- whether the word at place k brings an optional part
  abbrev pub brings : Word → ℕ → Bool
  brings w k = is_named w (token_at t k)

  -- where the factors, the pole, the model and the end of the line are to be
  unfoldable pub factors_start : ℕ
  factors_start = route_end 7

  unfoldable pub pole_start : ℕ
  pole_start = cond (brings word.Factors factors_start) (factors_start + 5) factors_start

  unfoldable pub model_start : ℕ
  model_start = cond (brings word.Pole pole_start) (pole_start + 3) pole_start

  unfoldable pub open_end : ℕ
  open_end = cond (brings word.Model model_start) (model_start + 2) model_start

  unfoldable pub factors_fit : Fit
  factors_fit = cond (brings word.Factors factors_start) (four_fit (factors_start + 1)) Good

  unfoldable pub pole_fit : Fit
  pole_fit = cond (brings word.Pole pole_start) (pair_fit (pole_start + 1)) Good

  unfoldable pub models_fit : Fit
  models_fit = cond (brings word.Model model_start) (model_fit (model_start + 1)) Good

  unfoldable pub open_fit : Fit
  open_fit = head_fit and_then factors_fit and_then pole_fit and_then models_fit and_then end_fit open_end

  unfoldable pub opening_factors : WrittenFactors
  opening_factors = cond (brings word.Factors factors_start) (factors_at (factors_start + 1)) usual_factors

  unfoldable pub opening_pole : WrittenPole
  opening_pole = cond (brings word.Pole pole_start) (pole_at (pole_start + 1)) usual_pole

  unfoldable pub opening_model : ℕ
  opening_model = cond (brings word.Model model_start) (model_at (model_start + 1)) 0

  unfoldable pub opening_at : WrittenInputs
  opening_at =
      record {
        month = whole_at 2;
        ssn = decimal_at 4;
        gmt = decimal_at 6;
        route = route_at 7;
        psc = opening_factors;
        pole = opening_pole;
        model = opening_model;
      }

  -- ---- a call of desk n, what it does being the word w at place 1

  -- a change
  unfoldable pub change_line : ℕ → Word → Line
  change_line n word.Sunspot = call_if (number_fit 2 and_then end_fit 3) (Change n (Sunspot (decimal_at 2)))
  change_line n word.Hour = call_if (number_fit 2 and_then end_fit 3) (Change n (Hour (decimal_at 2)))
  change_line n word.Path = call_if (route_fit 2 and_then end_fit (route_end 2)) (Change n (Path (route_at 2)))
  change_line n word.Factors = call_if (four_fit 2 and_then end_fit 6) (Change n (Psc (factors_at 2)))
  change_line n word.Pole = call_if (pair_fit 2 and_then end_fit 4) (Change n (Pole (pole_at 2)))
  change_line n word.Month = call_if (whole_fit 2 and_then end_fit 3) (Change n (Month (whole_at 2)))
  change_line n word.Model = call_if (model_fit 2 and_then end_fit 3) (Change n (Model (model_at 2)))
  change_line n w = line.Wrong (record { word = 2; wanted = Deed })

  -- any call
  unfoldable pub deed_line : ℕ → Word → Line
  deed_line n word.Begin = call_if (end_fit 2) (Begin n)
  deed_line n word.Commit = call_if (end_fit 2) (Commit n)
  deed_line n word.Cancel = call_if (end_fit 2) (Cancel n)
  deed_line n word.Show = call_if (end_fit 2) (Show n)
  deed_line n w = change_line n w

  -- what it does being the word at place 1, if that is one
  abbrev pub desk_line : ℕ → Token → Line
  desk_line n (token.Word w) = deed_line n w
  desk_line n (token.Number d) = line.Wrong (record { word = 2; wanted = Deed })
  desk_line n token.Other = line.Wrong (record { word = 2; wanted = Deed })
  desk_line n token.End = line.Wrong (record { word = 2; wanted = Deed })

  -- ---- a line

  -- one that begins with the word w
  unfoldable pub word_line : Word → Line
  word_line word.Open = line_if open_fit (line.Open opening_at)
  word_line word.Show = call_if (end_fit 1) (Show 0)
  word_line word.Take = call_if (word_fit 1 word.Back and_then end_fit 2) TakeBack
  word_line w = line.Wrong (record { word = 1; wanted = Start })

  -- one that begins with a number, the desk's
  unfoldable pub number_line : Decimal → Line
  number_line d =
      cond (is_whole_decimal d) (desk_line d.digits (token_at t 1)) (line.Wrong (record { word = 1; wanted = Start }))

  -- by its first word
  abbrev pub start_line : Token → Line
  start_line token.End = line.Blank
  start_line (token.Word w) = word_line w
  start_line (token.Number d) = number_line d
  start_line token.Other = line.Wrong (record { word = 1; wanted = Start })

-- THE LINE that bytes are
unfoldable pub line_in : List ℕ → Line
line_in l = let t = tokens_of l in start_line t (token_at t 0)

-- ---- on the way: nothing below need be believed

-- Only private contracts and proofs use what follows: whether a call's words fit, and the call that
-- they then are, each by itself.

module _ (t : Tokens) where
  unfoldable pub change_fit : Word → Fit
  change_fit word.Sunspot = number_fit t 2 and_then end_fit t 3
  change_fit word.Hour = number_fit t 2 and_then end_fit t 3
  change_fit word.Path = route_fit t 2 and_then end_fit t (route_end t 2)
  change_fit word.Factors = four_fit t 2 and_then end_fit t 6
  change_fit word.Pole = pair_fit t 2 and_then end_fit t 4
  change_fit word.Month = whole_fit t 2 and_then end_fit t 3
  change_fit word.Model = model_fit t 2 and_then end_fit t 3
  change_fit w = Err (record { word = 2; wanted = Deed })

  unfoldable pub change_edit : Word → WrittenEdit
  change_edit word.Sunspot = Sunspot (decimal_at t 2)
  change_edit word.Hour = Hour (decimal_at t 2)
  change_edit word.Path = Path (route_at t 2)
  change_edit word.Factors = Psc (factors_at t 2)
  change_edit word.Pole = Pole (pole_at t 2)
  change_edit word.Month = Month (whole_at t 2)
  change_edit w = Model (model_at t 2)

  unfoldable pub deed_fit : Word → Fit
  deed_fit word.Begin = end_fit t 2
  deed_fit word.Commit = end_fit t 2
  deed_fit word.Cancel = end_fit t 2
  deed_fit word.Show = end_fit t 2
  deed_fit w = change_fit w

  unfoldable pub deed_call : ℕ → Word → WrittenCall
  deed_call n word.Begin = Begin n
  deed_call n word.Commit = Commit n
  deed_call n word.Cancel = Cancel n
  deed_call n word.Show = Show n
  deed_call n w = Change n (change_edit w)

  unfoldable pub bare_fit : Word → Fit
  bare_fit word.Show = end_fit t 1
  bare_fit word.Take = word_fit t 1 word.Back and_then end_fit t 2
  bare_fit w = Err (record { word = 1; wanted = Start })

unfoldable pub bare_call : Word → WrittenCall
bare_call word.Show = Show 0
bare_call w = TakeBack
