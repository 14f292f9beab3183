-- Every call and every open that a line reads as can be written: its decimals have few digits, its
-- whole numbers fit a `u32`, its flags are 0 or 1. By the cases of the grammar. Assumes nothing.
use Rattle.std.proofs.Common.{ℕ, ◌+◌, Bool, true, false, cond, List, ◌≡◌, refl, subst, arith, Ok, Err}
use Rattle.wording.specs.declared.number.Decimal.{Decimal}
use Rattle.wording.specs.declared.token.Token.{Token}
use Rattle.wording.specs.declared.token.Token.TheVariants as token
use Rattle.wording.specs.declared.token.Tokens.{Tokens}
use Rattle.wording.specs.declared.line.Fault.{Fault}
use Rattle.wording.specs.Line.{Fit}
use Rattle.wording.specs.declared.line.Wanted.TheVariants.{Start}
use Rattle.wording.specs.declared.line.Line.{Line}
use Rattle.wording.specs.declared.line.Line.TheVariants.{Blank, Open, Call, Wrong}
use Rattle.wording.specs.declared.written.WrittenInputs.{WrittenInputs}
use Rattle.wording.specs.declared.written.WrittenCall.{WrittenCall}
use Rattle.wording.specs.Token.{tokens_of, token_at}
use Rattle.wording.specs.Line.{is_named, is_whole, is_whole_decimal, usual_factors, usual_pole, line_if, call_if, decimal_at, whole_at, model_at, is_long_at, route_at, factors_at, pole_at, brings, factors_start, pole_start, model_start, opening_factors, opening_pole, opening_model, opening_at, open_fit, deed_line, desk_line, word_line, number_line, start_line, line_in, change_edit, deed_fit, deed_call}
use Rattle.wording.specs.declared.token.Word.{Word as AWord}
use Rattle.wording.specs.declared.token.Word.TheVariants as word
use Rattle.wording.proofs.words.Fits.{whole_fits, word_fits, deed_parts}
use Rattle.results.specs.ReadBack.{Few, Fits, Flag, off, on, GoodRoute, GoodFactors, GoodPole, GoodInputs, GoodEdit, sunspot, hour, path, psc, pole, month, model, GoodCall, begin, change, commit, cancel, take_back, show}
use Rattle.results.proofs.reading.Numbers.{token_sound}

-- a line: its open or its call
data GoodLine : Line → Type 0 where
  blank : GoodLine Blank
  opened : {o : WrittenInputs} → GoodInputs o → GoodLine (Open o)
  called : {c : WrittenCall} → GoodCall c → GoodLine (Call c)
  wrong : {f : Fault} → GoodLine (Wrong f)

-- ---- the parts of a line

flag : (b : Bool) → Flag (cond b 1 0)
flag true = on
flag false = off

module _ (l : List ℕ) where
  abbrev t : Tokens
  t = tokens_of l

  few : (k : ℕ) → Few (decimal_at t k)
  few k = token_sound l k

  fits : (k : ℕ) → Fits (whole_at t k)
  unfolding whole_at
  fits k = by (is_whole (token_at t k)) refl
    where
      by : (b : Bool) → is_whole (token_at t k) ≡ b → Fits (cond b (decimal_at t k).digits 0)
      by true e = word_fits (token_at t k) e
      by false e = omega arith

  one_of_two : (k : ℕ) → Flag (model_at t k)
  unfolding model_at
  one_of_two k = flag (is_named word.Ursi (token_at t k))

  route : (k : ℕ) → GoodRoute (route_at t k)
  unfolding route_at
  route k =
      record {
        tlat = few (k + 1);
        tlong = few (k + 2);
        rlat = few (k + 4);
        rlong = few (k + 5);
        long = flag (is_long_at t k);
      }

  factors : (k : ℕ) → GoodFactors (factors_at t k)
  unfolding factors_at
  factors k = record { e = few k; f1 = few (k + 1); f2 = few (k + 2); es = few (k + 3) }

  a_pole : (k : ℕ) → GoodPole (pole_at t k)
  unfolding pole_at
  a_pole k = record { lat = few k; lon = few (k + 1) }

  -- ---- an open

  opening_factors_law : GoodFactors (opening_factors t)
  unfolding opening_factors
  opening_factors_law = by (brings t word.Factors (factors_start t))
    where
      by : (b : Bool) → GoodFactors (cond b (factors_at t (factors_start t + 1)) usual_factors)
      by true = factors (factors_start t + 1)
      by false = record { e = refl; f1 = refl; f2 = refl; es = refl }

  opening_pole_law : GoodPole (opening_pole t)
  unfolding opening_pole
  opening_pole_law = by (brings t word.Pole (pole_start t))
    where
      by : (b : Bool) → GoodPole (cond b (pole_at t (pole_start t + 1)) usual_pole)
      by true = a_pole (pole_start t + 1)
      by false = record { lat = refl; lon = refl }

  opening_model_law : Flag (opening_model t)
  unfolding opening_model
  opening_model_law = by (brings t word.Model (model_start t))
    where
      by : (b : Bool) → Flag (cond b (model_at t (model_start t + 1)) 0)
      by true = one_of_two (model_start t + 1)
      by false = off

  opening : GoodInputs (opening_at t)
  unfolding opening_at
  opening =
      record {
        month = fits 2;
        ssn = few 4;
        gmt = few 6;
        route = route 7;
        psc = opening_factors_law;
        pole = opening_pole_law;
        model = opening_model_law;
      }

-- ---- a line, whether its words fit or not

if_fits : (f : Fit) {x : Line} → GoodLine x → GoodLine (line_if f x)
if_fits (Ok u) h = h
if_fits (Err f) h = wrong

call_if_fits : (f : Fit) {c : WrittenCall} → GoodCall c → GoodLine (call_if f c)
call_if_fits f h = if_fits f (called h)

module _ (l : List ℕ) where
  an_edit : (w : AWord) → GoodEdit (change_edit (t l) w)
  unfolding change_edit
  an_edit word.Open = model (one_of_two l 2)
  an_edit word.Month = month (fits l 2)
  an_edit word.Sunspot = sunspot {d = decimal_at (t l) 2} (few l 2)
  an_edit word.Hour = hour {d = decimal_at (t l) 2} (few l 2)
  an_edit word.From = model (one_of_two l 2)
  an_edit word.To = model (one_of_two l 2)
  an_edit word.Long = model (one_of_two l 2)
  an_edit word.Factors = psc (factors l 2)
  an_edit word.Pole = pole (a_pole l 2)
  an_edit word.Model = model (one_of_two l 2)
  an_edit word.Ccir = model (one_of_two l 2)
  an_edit word.Ursi = model (one_of_two l 2)
  an_edit word.Begin = model (one_of_two l 2)
  an_edit word.Path = path (route l 2)
  an_edit word.Commit = model (one_of_two l 2)
  an_edit word.Cancel = model (one_of_two l 2)
  an_edit word.Show = model (one_of_two l 2)
  an_edit word.Take = model (one_of_two l 2)
  an_edit word.Back = model (one_of_two l 2)
  an_edit (word.Another m) = model (one_of_two l 2)

  a_deed : (n : ℕ) (w : AWord) → Fits n → GoodCall (deed_call (t l) n w)
  unfolding deed_call
  a_deed n word.Open h = change h (an_edit word.Open)
  a_deed n word.Month h = change h (an_edit word.Month)
  a_deed n word.Sunspot h = change h (an_edit word.Sunspot)
  a_deed n word.Hour h = change h (an_edit word.Hour)
  a_deed n word.From h = change h (an_edit word.From)
  a_deed n word.To h = change h (an_edit word.To)
  a_deed n word.Long h = change h (an_edit word.Long)
  a_deed n word.Factors h = change h (an_edit word.Factors)
  a_deed n word.Pole h = change h (an_edit word.Pole)
  a_deed n word.Model h = change h (an_edit word.Model)
  a_deed n word.Ccir h = change h (an_edit word.Ccir)
  a_deed n word.Ursi h = change h (an_edit word.Ursi)
  a_deed n word.Begin h = begin h
  a_deed n word.Path h = change h (an_edit word.Path)
  a_deed n word.Commit h = commit h
  a_deed n word.Cancel h = cancel h
  a_deed n word.Show h = show h
  a_deed n word.Take h = change h (an_edit word.Take)
  a_deed n word.Back h = change h (an_edit word.Back)
  a_deed n (word.Another m) h = change h (an_edit (word.Another m))

  deed : (n : ℕ) (w : AWord) → Fits n → GoodLine (deed_line (t l) n w)
  deed n w h = subst GoodLine (deed_parts (t l) n w) (call_if_fits (deed_fit (t l) w) (a_deed n w h))

  by_word : (w : AWord) → GoodLine (word_line (t l) w)
  unfolding word_line
  by_word word.Open = if_fits (open_fit (t l)) (opened (opening l))
  by_word word.Month = wrong
  by_word word.Sunspot = wrong
  by_word word.Hour = wrong
  by_word word.From = wrong
  by_word word.To = wrong
  by_word word.Long = wrong
  by_word word.Factors = wrong
  by_word word.Pole = wrong
  by_word word.Model = wrong
  by_word word.Ccir = wrong
  by_word word.Ursi = wrong
  by_word word.Begin = wrong
  by_word word.Path = wrong
  by_word word.Commit = wrong
  by_word word.Cancel = wrong
  by_word word.Show = call_if_fits _ (show {n = 0} (omega arith))
  by_word word.Take = call_if_fits _ take_back
  by_word word.Back = wrong
  by_word (word.Another m) = wrong

  desk : (n : ℕ) (k : Token) → Fits n → GoodLine (desk_line (t l) n k)
  desk n (token.Word w) h = deed n w h
  desk n (token.Number d) h = wrong
  desk n token.Other h = wrong
  desk n token.End h = wrong

  by_number : (d : Decimal) → GoodLine (number_line (t l) d)
  unfolding number_line
  by_number d = by (is_whole_decimal d) refl
    where
      by :
          (b : Bool) → is_whole_decimal d ≡ b →
          GoodLine (cond b (desk_line (t l) d.digits (token_at (t l) 1)) (Wrong (record { word = 1; wanted = Start })))
      by true e = desk d.digits (token_at (t l) 1) (whole_fits d e)
      by false e = wrong

  by_start : (k : Token) → GoodLine (start_line (t l) k)
  by_start token.End = blank
  by_start (token.Word w) = by_word w
  by_start (token.Number d) = by_number d
  by_start token.Other = wrong

  good_line : GoodLine (line_in l)
  unfolding line_in
  good_line = by_start (token_at (t l) 0)

-- ---- WHAT A LINE READS AS can be written

open_is : (o : WrittenInputs) → GoodLine (Open o) → GoodInputs o
open_is o (opened h) = h

call_is : (c : WrittenCall) → GoodLine (Call c) → GoodCall c
call_is c (called h) = h

pub read_open : (l : List ℕ) (o : WrittenInputs) → line_in l ≡ Open o → GoodInputs o
read_open l o e = open_is o (subst GoodLine e (good_line l))

pub read_call : (l : List ℕ) (c : WrittenCall) → line_in l ≡ Call c → GoodCall c
read_call l c e = call_is c (subst GoodLine e (good_line l))
