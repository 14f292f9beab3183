-- The text of a call reads as that call, and so of an open: the words of the text are known, and the
-- grammar computes on them. Assumes nothing.
use Rattle.std.proofs.Common.{ℕ, ◌^◌, Bool, true, false, cond, List, [], ◌∷◌, ◌≡◌, refl, sym, ap, ◌∙◌, eqb, ltb, lt-ltb, eqb-true}
use Rattle.base.proofs.verdicts.Picks.{cond_true}
use Rattle.wording.specs.declared.token.Token.{Token}
use Rattle.wording.specs.declared.token.Token.TheVariants.{Word, Number}
use Rattle.wording.specs.declared.token.Tokens.{Tokens}
use Rattle.wording.specs.declared.line.Wanted.TheVariants.{Whole}
use Rattle.wording.specs.Line.{Good}
use Rattle.wording.specs.declared.line.Line.{Line}
use Rattle.wording.specs.declared.line.Line.TheVariants.{Open, Call}
use Rattle.wording.specs.declared.written.WrittenRoute.{WrittenRoute}
use Rattle.wording.specs.declared.written.WrittenInputs.{WrittenInputs}
use Rattle.wording.specs.declared.written.WrittenEdit.{WrittenEdit}
use Rattle.wording.specs.declared.written.WrittenEdit.TheVariants.{Path, Month, Model}
use Rattle.wording.specs.declared.written.WrittenCall.{WrittenCall}
use Rattle.wording.specs.declared.written.WrittenCall.TheVariants.{Change, Show}
use Rattle.wording.specs.Token.{tokens_of, token_at}
use Rattle.wording.specs.Line.{fit_unless, ◌and_then◌, call_if, line_if, model_fit, whole_at, model_at, pair_fit, four_fit, route_fit, route_at, route_end, factors_at, pole_at, head_fit, factors_start, pole_start, model_start, open_end, factors_fit, pole_fit, models_fit, open_fit, opening_factors, opening_pole, opening_model, opening_at, change_line, deed_line, desk_line, word_line, number_line, start_line, line_in}
use Rattle.wording.specs.declared.token.Word.TheVariants as word
use Rattle.listing.specs.Written.{call_text, open_text}
use Rattle.results.specs.ReadBack.{Fits, Flag, off, on, GoodEdit, sunspot, hour, path, psc, pole, month, model, GoodInputs, GoodCall, begin, change, commit, cancel, take_back, show}
use Rattle.results.proofs.reading.Words.{AllRead, trailing, held, tokens_read, blank_first}
use Rattle.results.proofs.reading.Texts.{whole, route_tokens, factors_tokens, pole_tokens, model_tokens, edit_tokens, call_tokens, open_tokens, call_text_law, open_text_law, call_read, open_read}

-- a route with its flag set, and inputs with their two flags set
abbrev turned : WrittenRoute → ℕ → WrittenRoute
turned p m =
    record { tlat = p.tlat; tlong = p.tlong; rlat = p.rlat; rlong = p.rlong; long_path = m }

abbrev flagged : WrittenInputs → ℕ → ℕ → WrittenInputs
flagged o a b =
    record {
      month = o.month;
      ssn = o.ssn;
      gmt = o.gmt;
      route = turned o.route a;
      psc = o.psc;
      pole = o.pole;
      model = b;
    }

-- the line that words are, by computation
as_line : List Token → Line
unfolding token_at model_fit whole_at model_at pair_fit four_fit route_fit route_at route_end factors_at pole_at head_fit factors_start pole_start model_start open_end factors_fit pole_fit models_fit open_fit opening_factors opening_pole opening_model opening_at change_line deed_line word_line number_line
as_line l = start_line (held l) (token_at (held l) 0)

reads_as : (text : List ℕ) (l : List Token) → 32 ∷ text ≡ trailing l → AllRead l → line_in text ≡ as_line l
unfolding line_in as_line
reads_as text l e h =
    let t : tokens_of text ≡ held l = sym (blank_first text) ∙ ap tokens_of e ∙ tokens_read h in
    ap (λ (x : Tokens). start_line x (token_at x 0)) t

-- ---- a desk's call

module _ (n : ℕ) (h : Fits n) where
  abbrev desk_words : List Token → Tokens
  desk_words l = held (whole n ∷ l)

  desk_line_law : (l : List Token) → as_line (whole n ∷ l) ≡ desk_line (desk_words l) n (token_at (desk_words l) 1)
  unfolding as_line
  desk_line_law l = cond_true _ _ (lt-ltb n (2 ^ 32) h)

  path_line :
      (p : WrittenRoute) {m : ℕ} → Flag m →
      as_line (whole n ∷ Word word.Path ∷ route_tokens (turned p m)) ≡ Call (Change n (Path (turned p m)))
  unfolding as_line
  path_line p off = desk_line_law (Word word.Path ∷ route_tokens (turned p 0))
  path_line p on = desk_line_law (Word word.Path ∷ route_tokens (turned p 1))

  model_line : {m : ℕ} → Flag m → as_line (whole n ∷ model_tokens m) ≡ Call (Change n (Model m))
  unfolding as_line
  model_line off = desk_line_law (model_tokens 0)
  model_line on = desk_line_law (model_tokens 1)

  month_line : (m : ℕ) → Fits m → as_line (whole n ∷ Word word.Month ∷ whole m ∷ []) ≡ Call (Change n (Month m))
  unfolding as_line
  month_line m g =
      let e = lt-ltb m (2 ^ 32) g in
      desk_line_law (Word word.Month ∷ whole m ∷ [])
      ∙ λ i. call_if (fit_unless (e i) 2 Whole and_then Good) (Change n (Month (cond (e i) m 0)))

  change_line_law : {e : WrittenEdit} → GoodEdit e → as_line (whole n ∷ edit_tokens e) ≡ Call (Change n e)
  unfolding as_line
  change_line_law (sunspot {d} g) = desk_line_law (Word word.Sunspot ∷ Number d ∷ [])
  change_line_law (hour {d} g) = desk_line_law (Word word.Hour ∷ Number d ∷ [])
  change_line_law (path {p} g) = path_line p g.long
  change_line_law (psc {p} g) = desk_line_law (factors_tokens p)
  change_line_law (pole {p} g) = desk_line_law (pole_tokens p)
  change_line_law (month {m} g) = month_line m g
  change_line_law (model g) = model_line g

  show_line : as_line (cond (eqb n 0) (Word word.Show ∷ []) (whole n ∷ Word word.Show ∷ [])) ≡ Call (Show n)
  unfolding as_line
  show_line = by (eqb n 0) refl
    where
      by : (b : Bool) → eqb n 0 ≡ b → as_line (cond b (Word word.Show ∷ []) (whole n ∷ Word word.Show ∷ [])) ≡ Call (Show n)
      by true e = ap (λ (k : ℕ). Call (Show k)) (sym (eqb-true n 0 e))
      by false e = desk_line_law (Word word.Show ∷ [])

call_line : {c : WrittenCall} → GoodCall c → as_line (call_tokens c) ≡ Call c
unfolding as_line
call_line (begin {n} h) = desk_line_law n h (Word word.Begin ∷ [])
call_line (change {n} h g) = change_line_law n h g
call_line (commit {n} h) = desk_line_law n h (Word word.Commit ∷ [])
call_line (cancel {n} h) = desk_line_law n h (Word word.Cancel ∷ [])
call_line take_back = refl
call_line (show {n} h) = show_line n h

-- ---- an open

-- with its month as it is read, by whether that fits a `u32`
abbrev dated : WrittenInputs → Bool → WrittenInputs
dated o b =
    record {
      month = cond b o.month 0;
      ssn = o.ssn;
      gmt = o.gmt;
      route = o.route;
      psc = o.psc;
      pole = o.pole;
      model = o.model;
    }

month_fits :
    (o : WrittenInputs) → Fits o.month →
    let b = ltb o.month (2 ^ 32) in
    line_if ((fit_unless b 2 Whole and_then Good) and_then Good) (Open (dated o b)) ≡ Open o
month_fits o h =
    let e = lt-ltb o.month (2 ^ 32) h in
    λ i. line_if ((fit_unless (e i) 2 Whole and_then Good) and_then Good) (Open (dated o (e i)))

open_line_law :
    (o : WrittenInputs) {a b : ℕ} → Flag a → Flag b → Fits o.month →
    as_line (open_tokens (flagged o a b)) ≡ Open (flagged o a b)
unfolding as_line
open_line_law o off off h = month_fits (flagged o 0 0) h
open_line_law o off on h = month_fits (flagged o 0 1) h
open_line_law o on off h = month_fits (flagged o 1 0) h
open_line_law o on on h = month_fits (flagged o 1 1) h

-- ---- READ AGAIN

pub call_reread : (c : WrittenCall) → GoodCall c → line_in (call_text c) ≡ Call c
call_reread c g = reads_as (call_text c) (call_tokens c) (call_text_law g) (call_read g) ∙ call_line g

pub open_reread : (o : WrittenInputs) → GoodInputs o → line_in (open_text o) ≡ Open o
open_reread o g =
    reads_as (open_text o) (open_tokens o) (open_text_law g) (open_read g)
    ∙ open_line_law o g.route.long g.model g.month
