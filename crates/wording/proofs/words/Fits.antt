-- The words of a call: a whole number fits a `u32`, and a call decided in two parts is the line that
-- the grammar names. Assumes nothing.
use Rattle.std.proofs.Common.{◌≡◌, refl, Bool, true, false, not, ◌&&◌, eqb, ltb, ℕ, ◌^◌, ◌<◌, ltb-true}
use Rattle.base.proofs.verdicts.Picks.{never}
use Rattle.wording.specs.declared.number.Decimal.{Decimal}
use Rattle.wording.specs.declared.token.Word.{Word}
use Rattle.wording.specs.declared.token.Word.TheVariants as word
use Rattle.wording.specs.declared.token.Token.{Token}
use Rattle.wording.specs.declared.token.Token.TheVariants as token
use Rattle.wording.specs.declared.token.Tokens.{Tokens}
use Rattle.wording.specs.Line.{is_whole_decimal, is_whole, decimal_in, call_if, change_line, deed_line, word_line, change_fit, change_edit, deed_fit, deed_call, bare_fit, bare_call}

-- ---- whole numbers

last_of_law : (a b d : Bool) → (a && b && d) ≡ true → d ≡ true
last_of_law true true d e = e
last_of_law true false d e = never e
last_of_law false true d e = never e
last_of_law false false d e = never e

pub whole_fits : (d : Decimal) → is_whole_decimal d ≡ true → d.digits < 2 ^ 32
whole_fits d e = ltb-true d.digits (2 ^ 32) (last_of_law (not d.negative) (eqb d.places 0) (ltb d.digits (2 ^ 32)) e)

pub word_fits : (t : Token) → is_whole t ≡ true → (decimal_in t).digits < 2 ^ 32
word_fits (token.Word k) e = never e
word_fits (token.Number d) e = whole_fits d e
word_fits token.Other e = never e
word_fits token.End e = never e

-- ---- a call in two parts: whether its words fit, and what is then meant

module _ (t : Tokens) where
  pub deed_parts : (n : ℕ) (w : Word) → call_if (deed_fit t w) (deed_call t n w) ≡ deed_line t n w
  unfolding deed_fit deed_call deed_line change_fit change_edit change_line
  deed_parts n word.Open = refl
  deed_parts n word.Month = refl
  deed_parts n word.Sunspot = refl
  deed_parts n word.Hour = refl
  deed_parts n word.From = refl
  deed_parts n word.To = refl
  deed_parts n word.Long = refl
  deed_parts n word.Factors = refl
  deed_parts n word.Pole = refl
  deed_parts n word.Model = refl
  deed_parts n word.Ccir = refl
  deed_parts n word.Ursi = refl
  deed_parts n word.Begin = refl
  deed_parts n word.Path = refl
  deed_parts n word.Commit = refl
  deed_parts n word.Cancel = refl
  deed_parts n word.Show = refl
  deed_parts n word.Take = refl
  deed_parts n word.Back = refl
  deed_parts n (word.Another m) = refl

  pub bare_parts : (w : Word) → (w ≡ word.Open → ⊥) → call_if (bare_fit t w) (bare_call w) ≡ word_line t w
  unfolding bare_fit bare_call word_line
  bare_parts word.Open n = absurd (n refl)
  bare_parts word.Month n = refl
  bare_parts word.Sunspot n = refl
  bare_parts word.Hour n = refl
  bare_parts word.From n = refl
  bare_parts word.To n = refl
  bare_parts word.Long n = refl
  bare_parts word.Factors n = refl
  bare_parts word.Pole n = refl
  bare_parts word.Model n = refl
  bare_parts word.Ccir n = refl
  bare_parts word.Ursi n = refl
  bare_parts word.Begin n = refl
  bare_parts word.Path n = refl
  bare_parts word.Commit n = refl
  bare_parts word.Cancel n = refl
  bare_parts word.Show n = refl
  bare_parts word.Take n = refl
  bare_parts word.Back n = refl
  bare_parts (word.Another m) n = refl
