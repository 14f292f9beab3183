-- The words of a call's text and of an open's: the text is those words with a blank before each, and
-- each reads back. Part by part. Assumes nothing.
use Rattle.std.proofs.Common.{ℕ, ◌/◌, ◌^◌, Bool, true, false, cond, List, [], ◌∷◌, ◌++◌, append-nil, append_assoc, ◌≡◌, refl, sym, ap, ◌∙◌, arith, eqb, lt-ltb}
use Rattle.base.proofs.ladder.Ladders.{and_true}
use Rattle.base.proofs.verdicts.Picks.{cond_true}
use Rattle.wording.specs.declared.number.Decimal.{Decimal}
use Rattle.wording.specs.declared.token.Token.{Token}
use Rattle.wording.specs.declared.token.Token.TheVariants.{Word, Number}
use Rattle.wording.specs.declared.written.WrittenRoute.{WrittenRoute}
use Rattle.wording.specs.declared.written.WrittenFactors.{WrittenFactors}
use Rattle.wording.specs.declared.written.WrittenPole.{WrittenPole}
use Rattle.wording.specs.declared.written.WrittenInputs.{WrittenInputs}
use Rattle.wording.specs.declared.written.WrittenEdit.{WrittenEdit}
use Rattle.wording.specs.declared.written.WrittenEdit.TheVariants.{Sunspot, Hour, Path, Psc, Pole, Month, Model}
use Rattle.wording.specs.declared.written.WrittenCall.{WrittenCall}
use Rattle.wording.specs.declared.written.WrittenCall.TheVariants.{Begin, Change, Commit, Cancel, TakeBack, Show}
use Rattle.wording.specs.Number.{is_written}
use Rattle.wording.specs.Token.{ascii, closed, word_named, token_of}
use Rattle.wording.specs.declared.token.Word.{Word as AWord}
use Rattle.wording.specs.declared.token.Word.TheVariants as word
use Rattle.listing.specs.Text.{decimal_of}
use Rattle.listing.specs.Decimal.{minus_of}
use Rattle.listing.specs.Written.{fraction_text, digits_text, number_text, pair_text, long_word, route_text, factors_text, pole_text, model_text, open_text, edit_text, deed_text, call_text}
use Rattle.listing.proofs.digits.Quotients.{by_none}
use Rattle.listing.proofs.reread.Bytes.{in_word, all}
use Rattle.results.specs.ReadBack.{Fits, GoodRoute, GoodFactors, GoodPole, GoodInputs, GoodEdit, sunspot, hour, path, psc, pole, month, model, GoodCall, begin, change, commit, cancel, take_back, show}
use Rattle.results.proofs.reading.Words.{token_text, Read, AllRead, none, more, trailing, trailing_both, all_both, number_read}

-- ---- the words

abbrev pub whole_decimal : ℕ → Decimal
whole_decimal n = record { negative = false; digits = n; places = 0 }

abbrev pub whole : ℕ → Token
whole n = Number (whole_decimal n)

abbrev pub long_tokens : ℕ → List Token
long_tokens m = cond (eqb m 0) [] (Word word.Long ∷ [])

abbrev pub route_tokens : WrittenRoute → List Token
route_tokens p =
    Word word.From ∷ Number p.tlat ∷ Number p.tlong
    ∷ Word word.To ∷ Number p.rlat ∷ Number p.rlong ∷ long_tokens p.long_path

abbrev pub factors_tokens : WrittenFactors → List Token
factors_tokens p = Word word.Factors ∷ Number p.e ∷ Number p.f1 ∷ Number p.f2 ∷ Number p.es ∷ []

abbrev pub pole_tokens : WrittenPole → List Token
pole_tokens p = Word word.Pole ∷ Number p.lat ∷ Number p.lon ∷ []

abbrev pub model_tokens : ℕ → List Token
model_tokens m = Word word.Model ∷ cond (eqb m 0) (Word word.Ccir) (Word word.Ursi) ∷ []

abbrev pub open_tokens : WrittenInputs → List Token
open_tokens o =
    Word word.Open ∷ Word word.Month ∷ whole o.month ∷ Word word.Sunspot ∷ Number o.ssn ∷ Word word.Hour ∷ Number o.gmt
    ∷ (route_tokens o.route ++ (factors_tokens o.psc ++ (pole_tokens o.pole ++ model_tokens o.model)))

abbrev pub edit_tokens : WrittenEdit → List Token
edit_tokens (Sunspot d) = Word word.Sunspot ∷ Number d ∷ []
edit_tokens (Hour d) = Word word.Hour ∷ Number d ∷ []
edit_tokens (Path p) = Word word.Path ∷ route_tokens p
edit_tokens (Psc p) = factors_tokens p
edit_tokens (Pole p) = pole_tokens p
edit_tokens (Month m) = Word word.Month ∷ whole m ∷ []
edit_tokens (Model m) = model_tokens m

abbrev pub call_tokens : WrittenCall → List Token
call_tokens (Begin n) = whole n ∷ Word word.Begin ∷ []
call_tokens (Change n e) = whole n ∷ edit_tokens e
call_tokens (Commit n) = whole n ∷ Word word.Commit ∷ []
call_tokens (Cancel n) = whole n ∷ Word word.Cancel ∷ []
call_tokens TakeBack = Word word.Take ∷ Word word.Back ∷ []
call_tokens (Show n) = cond (eqb n 0) (Word word.Show ∷ []) (whole n ∷ Word word.Show ∷ [])

-- ---- a whole number

whole_written : (n : ℕ) → Fits n → is_written (whole_decimal n) ≡ true
whole_written n h = and_true (lt-ltb n (10 ^ 18) (omega arith)) refl

whole_text_law : (n : ℕ) → Fits n → decimal_of n ≡ number_text (whole_decimal n)
unfolding number_text digits_text fraction_text minus_of
whole_text_law n h =
    sym (cond_true _ _ (whole_written n h) ∙ append-nil (decimal_of (n / 10 ^ 0)) ∙ ap decimal_of (by_none n 10))

whole_read : (n : ℕ) → Fits n → Read (whole n)
whole_read n h = number_read (whole_decimal n) (whole_written n h)

-- ---- the text is the words

number_last : (d : Decimal) → 32 ∷ number_text d ≡ trailing (Number d ∷ [])
unfolding trailing
number_last d = ap (λ (x : List ℕ). 32 ∷ x) (sym (append-nil (number_text d)))

pair_text_law : (a b : Decimal) (l : List Token) → 32 ∷ (pair_text a b ++ trailing l) ≡ trailing (Number a ∷ Number b ∷ l)
unfolding trailing pair_text
pair_text_law a b l = ap (λ (x : List ℕ). 32 ∷ x) (append_assoc (number_text a) (32 ∷ number_text b) (trailing l))

pair_last : (a b : Decimal) → 32 ∷ pair_text a b ≡ trailing (Number a ∷ Number b ∷ [])
unfolding trailing
pair_last a b = ap (λ (x : List ℕ). 32 ∷ x) (sym (append-nil (pair_text a b))) ∙ pair_text_law a b []

long_text_law : (b : Bool) → cond b [] (ascii " long") ≡ trailing (cond b [] (Word word.Long ∷ []))
unfolding trailing
long_text_law true = refl
long_text_law false = refl

route_text_law : (p : WrittenRoute) → 32 ∷ route_text p ≡ trailing (route_tokens p)
unfolding trailing route_text long_word
route_text_law p =
    let a = pair_text p.tlat p.tlong in
    let b = pair_text p.rlat p.rlong in
    let last = long_tokens p.long_path in
    ap (λ (x : List ℕ). ascii " from " ++ (a ++ (ascii " to " ++ (b ++ x)))) (long_text_law (eqb p.long_path 0))
    ∙ ap (λ (x : List ℕ). ascii " from " ++ (a ++ (ascii " to" ++ x)))
    (pair_text_law p.rlat p.rlong last)
    ∙ ap (λ (x : List ℕ). ascii " from" ++ x)
    (pair_text_law p.tlat p.tlong (Word word.To ∷ Number p.rlat ∷ Number p.rlong ∷ last))

factors_text_law : (p : WrittenFactors) → 32 ∷ factors_text p ≡ trailing (factors_tokens p)
unfolding trailing factors_text
factors_text_law p =
    ap (λ (x : List ℕ). ascii " factors " ++ (pair_text p.e p.f1 ++ x)) (pair_last p.f2 p.es)
    ∙ ap (λ (x : List ℕ). ascii " factors" ++ x) (pair_text_law p.e p.f1 (Number p.f2 ∷ Number p.es ∷ []))

pole_text_law : (p : WrittenPole) → 32 ∷ pole_text p ≡ trailing (pole_tokens p)
unfolding trailing pole_text
pole_text_law p = ap (λ (x : List ℕ). ascii " pole" ++ x) (pair_last p.lat p.lon)

model_text_law : (m : ℕ) → 32 ∷ model_text m ≡ trailing (model_tokens m)
unfolding trailing model_text
model_text_law m = by (eqb m 0)
  where
    by :
        (b : Bool) →
        ascii " model " ++ cond b (ascii "ccir") (ascii "ursi")
        ≡ ascii " model " ++ (token_text (cond b (Word word.Ccir) (Word word.Ursi)) ++ [])
    by true = refl
    by false = refl

edit_text_law : {e : WrittenEdit} → GoodEdit e → 32 ∷ edit_text e ≡ trailing (edit_tokens e)
unfolding trailing edit_text
edit_text_law (sunspot {d} h) = ap (λ (x : List ℕ). ascii " sunspot" ++ x) (number_last d)
edit_text_law (hour {d} h) = ap (λ (x : List ℕ). ascii " hour" ++ x) (number_last d)
edit_text_law (path {p} h) = ap (λ (x : List ℕ). ascii " path" ++ x) (route_text_law p)
edit_text_law (psc {p} h) = factors_text_law p
edit_text_law (pole {p} h) = pole_text_law p
edit_text_law (month {m} h) =
    ap (λ (x : List ℕ). ascii " month " ++ x) (whole_text_law m h)
    ∙ ap (λ (x : List ℕ). ascii " month" ++ x) (number_last (whole_decimal m))
edit_text_law (model {m} h) = model_text_law m

deed_text_law :
    (n : ℕ) → Fits n → (deed : List ℕ) (l : List Token) → 32 ∷ deed ≡ trailing l →
    32 ∷ deed_text n deed ≡ trailing (whole n ∷ l)
unfolding trailing deed_text
deed_text_law n h deed l e = λ i. 32 ∷ (whole_text_law n h i ++ e i)

pub call_text_law : {c : WrittenCall} → GoodCall c → 32 ∷ call_text c ≡ trailing (call_tokens c)
unfolding trailing call_text
call_text_law (begin {n} h) = deed_text_law n h (ascii "begin") (Word word.Begin ∷ []) refl
call_text_law (change {n} {e} h g) = deed_text_law n h (edit_text e) (edit_tokens e) (edit_text_law g)
call_text_law (commit {n} h) = deed_text_law n h (ascii "commit") (Word word.Commit ∷ []) refl
call_text_law (cancel {n} h) = deed_text_law n h (ascii "cancel") (Word word.Cancel ∷ []) refl
call_text_law take_back = refl
call_text_law (show {n} h) = by (eqb n 0)
  where
    by :
        (b : Bool) →
        32 ∷ cond b (ascii "show") (deed_text n (ascii "show"))
        ≡ trailing (cond b (Word word.Show ∷ []) (whole n ∷ Word word.Show ∷ []))
    by true = refl
    by false = deed_text_law n h (ascii "show") (Word word.Show ∷ []) refl

pub open_text_law : {o : WrittenInputs} → GoodInputs o → 32 ∷ open_text o ≡ trailing (open_tokens o)
unfolding trailing open_text
open_text_law {o} h =
    let m = model_tokens o.model in
    let p = pole_tokens o.pole in
    let f = factors_tokens o.psc in
    let r = route_tokens o.route in
    let parts =
    trailing_both r (f ++ (p ++ m))
    ∙ ap (λ (x : List ℕ). trailing r ++ x)
    (trailing_both f (p ++ m) ∙ ap (λ (x : List ℕ). trailing f ++ x) (trailing_both p m)) in
    let ssn = number_text o.ssn in
    let gmt = number_text o.gmt in
    (λ i.
    ascii " open month "
    ++ (whole_text_law o.month h.month i
    ++ (ascii " sunspot "
    ++ (ssn
    ++ (ascii " hour "
    ++ (gmt
    ++ (route_text_law o.route i
    ++ (factors_text_law o.psc i ++ (pole_text_law o.pole i ++ model_text_law o.model i)))))))))
    ∙ ap
    (λ (x : List ℕ).
    ascii " open month "
    ++ (number_text (whole_decimal o.month) ++ (ascii " sunspot " ++ (ssn ++ (ascii " hour " ++ (gmt ++ x))))))
    (sym parts)

-- ---- each word reads back

named :
    (k : AWord) → all in_word (token_text (Word k)) ≡ true → closed (token_text (Word k)) ≡ token_text (Word k) ∷ [] →
    token_of (token_text (Word k)) ≡ Word k → Read (Word k)
named k p q e = record { in_word_law = p; some = q; reads = e }

long_read : (b : Bool) → AllRead (cond b [] (Word word.Long ∷ []))
unfolding token_of word_named
long_read true = none
long_read false = more (named word.Long refl refl refl) none

route_read : (p : WrittenRoute) → GoodRoute p → AllRead (route_tokens p)
unfolding token_of word_named
route_read p h =
    more (named word.From refl refl refl)
    (more (number_read p.tlat h.tlat)
    (more (number_read p.tlong h.tlong)
    (more (named word.To refl refl refl)
    (more (number_read p.rlat h.rlat)
    (more (number_read p.rlong h.rlong) (long_read (eqb p.long_path 0)))))))

factors_read : (p : WrittenFactors) → GoodFactors p → AllRead (factors_tokens p)
unfolding token_of word_named
factors_read p h =
    more (named word.Factors refl refl refl)
    (more (number_read p.e h.e)
    (more (number_read p.f1 h.f1)
    (more (number_read p.f2 h.f2) (more (number_read p.es h.es) none))))

pole_read : (p : WrittenPole) → GoodPole p → AllRead (pole_tokens p)
unfolding token_of word_named
pole_read p h =
    more (named word.Pole refl refl refl)
    (more (number_read p.lat h.lat) (more (number_read p.lon h.lon) none))

model_read : (b : Bool) → AllRead (Word word.Model ∷ cond b (Word word.Ccir) (Word word.Ursi) ∷ [])
unfolding token_of word_named
model_read true = more (named word.Model refl refl refl) (more (named word.Ccir refl refl refl) none)
model_read false = more (named word.Model refl refl refl) (more (named word.Ursi refl refl refl) none)

edit_read : {e : WrittenEdit} → GoodEdit e → AllRead (edit_tokens e)
unfolding token_of word_named
edit_read (sunspot {d} h) = more (named word.Sunspot refl refl refl) (more (number_read d h) none)
edit_read (hour {d} h) = more (named word.Hour refl refl refl) (more (number_read d h) none)
edit_read (path {p} h) = more (named word.Path refl refl refl) (route_read p h)
edit_read (psc {p} h) = factors_read p h
edit_read (pole {p} h) = pole_read p h
edit_read (month {m} h) = more (named word.Month refl refl refl) (more (whole_read m h) none)
edit_read (model {m} h) = model_read (eqb m 0)

pub call_read : {c : WrittenCall} → GoodCall c → AllRead (call_tokens c)
unfolding token_of word_named
call_read (begin {n} h) = more (whole_read n h) (more (named word.Begin refl refl refl) none)
call_read (change {n} h g) = more (whole_read n h) (edit_read g)
call_read (commit {n} h) = more (whole_read n h) (more (named word.Commit refl refl refl) none)
call_read (cancel {n} h) = more (whole_read n h) (more (named word.Cancel refl refl refl) none)
call_read take_back = more (named word.Take refl refl refl) (more (named word.Back refl refl refl) none)
call_read (show {n} h) = by (eqb n 0)
  where
    by : (b : Bool) → AllRead (cond b (Word word.Show ∷ []) (whole n ∷ Word word.Show ∷ []))
    by true = more (named word.Show refl refl refl) none
    by false = more (whole_read n h) (more (named word.Show refl refl refl) none)

pub open_read : {o : WrittenInputs} → GoodInputs o → AllRead (open_tokens o)
unfolding token_of word_named
open_read {o} h =
    more (named word.Open refl refl refl)
    (more (named word.Month refl refl refl)
    (more (whole_read o.month h.month)
    (more (named word.Sunspot refl refl refl)
    (more (number_read o.ssn h.ssn)
    (more (named word.Hour refl refl refl)
    (more (number_read o.gmt h.gmt)
    (all_both (route_read o.route h.route)
    (all_both (factors_read o.psc h.psc)
    (all_both (pole_read o.pole h.pole) (model_read (eqb o.model 0)))))))))))
