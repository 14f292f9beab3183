-- Written calls and faults as text, by computation. Assumes nothing.
use Rattle.std.proofs.Common.{◌≡◌, refl, true, false, ℕ, ◌^◌}
use Rattle.wording.specs.declared.number.Decimal.{Decimal}
use Rattle.wording.specs.declared.token.Word.TheVariants as word
use Rattle.wording.specs.declared.line.Wanted.TheVariants.{Start, Deed, Word, Number, Whole, Model as WantedModel, Nothing}
use Rattle.wording.specs.declared.written.WrittenRoute.{WrittenRoute}
use Rattle.wording.specs.declared.written.WrittenFactors.{WrittenFactors}
use Rattle.wording.specs.declared.written.WrittenPole.{WrittenPole}
use Rattle.wording.specs.declared.written.WrittenEdit.TheVariants.{Sunspot, Hour, Path, Psc, Pole, Month, Model}
use Rattle.wording.specs.declared.written.WrittenCall.TheVariants.{Begin, Change, Commit, Cancel, TakeBack, Show}
use Rattle.wording.specs.Token.{ascii}
use Rattle.listing.specs.Text.{digit_of, has_digit, digit_at, digits_below}
use Rattle.listing.specs.Decimal.{minus_of}
use Rattle.listing.specs.Written.{places_text, fraction_text, digits_text, number_text, pair_text, long_word, route_text, factors_text, pole_text, model_text, open_text, edit_text, deed_text, call_text}
use Rattle.listing.specs.Fault.{wanted_text, fault_text}

abbrev plus : ℕ → ℕ → Decimal
plus n k = record { negative = false; digits = n; places = k }

abbrev minus : ℕ → ℕ → Decimal
minus n k = record { negative = true; digits = n; places = k }

numbers :
    (number_text (minus 2190 2) ≡ ascii "-21.90")
    × (number_text (plus 5 3) ≡ ascii "0.005")
    × (number_text (minus 0 0) ≡ ascii "-0")
    × (number_text (plus 750 2) ≡ ascii "7.50")
    × (number_text (plus 999999999999999999 18) ≡ ascii "0.999999999999999999")
    × (number_text (plus (10 ^ 18) 0) ≡ ascii "no number")
    × (number_text (plus 1 19) ≡ ascii "no number")
unfolding number_text digits_text fraction_text places_text minus_of digits_below digit_at has_digit digit_of
numbers = (refl, refl, refl, refl, refl, refl, refl)

abbrev there : WrittenRoute
there = record { tlat = plus 6247 2; tlong = plus 615 2; rlat = plus 6413 2; rlong = minus 219 1; long_path = 0 }

abbrev back : WrittenRoute
back = record { tlat = plus 6247 2; tlong = plus 615 2; rlat = plus 66 0; rlong = minus 181 1; long_path = 1 }

abbrev ones : WrittenFactors
ones = record { e = plus 1 0; f1 = plus 1 0; f2 = plus 1 0; es = plus 1 0 }

abbrev pole : WrittenPole
pole = record { lat = plus 785 1; lon = minus 69 0 }

opens :
    open_text (record { month = 6; ssn = plus 80 0; gmt = plus 12 0; route = there; psc = ones; pole = pole; model = 0 })
    ≡ ascii "open month 6 sunspot 80 hour 12 from 62.47 6.15 to 64.13 -21.9 factors 1 1 1 1 pole 78.5 -69 model ccir"
unfolding open_text route_text factors_text pole_text model_text pair_text long_word number_text digits_text fraction_text places_text minus_of digits_below digit_at has_digit digit_of
opens = refl

calls :
    (call_text (Begin 1) ≡ ascii "1 begin")
    × (call_text (Change 1 (Sunspot (plus 925 1))) ≡ ascii "1 sunspot 92.5")
    × (call_text (Change 2 (Hour (plus 18 0))) ≡ ascii "2 hour 18")
    × (call_text (Change 1 (Path back)) ≡ ascii "1 path from 62.47 6.15 to 66 -18.1 long")
    × (call_text (Change 3 (Psc ones)) ≡ ascii "3 factors 1 1 1 1")
    × (call_text (Change 4 (Pole pole)) ≡ ascii "4 pole 78.5 -69")
    × (call_text (Change 1 (Month 12)) ≡ ascii "1 month 12")
    × (call_text (Change 1 (Model 1)) ≡ ascii "1 model ursi")
    × (call_text (Commit 1) ≡ ascii "1 commit")
    × (call_text (Cancel 4294967295) ≡ ascii "4294967295 cancel")
    × (call_text TakeBack ≡ ascii "take back")
    × (call_text (Show 0) ≡ ascii "show")
    × (call_text (Show 2) ≡ ascii "2 show")
unfolding call_text deed_text edit_text route_text factors_text pole_text model_text pair_text long_word number_text digits_text fraction_text places_text minus_of digits_below digit_at has_digit digit_of
calls = (refl, refl, refl, refl, refl, refl, refl, refl, refl, refl, refl, refl, refl)

faults :
    (fault_text 7 (record { word = 2; wanted = WantedModel }) ≡ ascii "line 7: no call: word 2 should be ccir or ursi\n")
    × (fault_text 12 (record { word = 1; wanted = Start })
    ≡ ascii "line 12: no call: word 1 should be open, show, take back or a desk's number\n")
    × (fault_text 1 (record { word = 2; wanted = Deed })
    ≡ ascii
    "line 1: no call: word 2 should be begin, sunspot, hour, month, model, path, factors, pole, show, commit or cancel\n")
    × (fault_text 1 (record { word = 2; wanted = Word word.Back }) ≡ ascii "line 1: no call: word 2 should be back\n")
    × (fault_text 1 (record { word = 2; wanted = Word (word.Another 0) }) ≡ ascii "line 1: no call: word 2 should be another\n")
    × (fault_text 1 (record { word = 3; wanted = Number })
    ≡ ascii "line 1: no call: word 3 should be a number: digits with sign and point, at most 18 of them\n")
    × (fault_text 1 (record { word = 3; wanted = Whole })
    ≡ ascii "line 1: no call: word 3 should be a whole number below 4294967296\n")
    × (fault_text 7 (record { word = 5; wanted = Nothing }) ≡ ascii "line 7: no call: word 5 is one too many\n")
unfolding fault_text wanted_text digits_below digit_at has_digit digit_of
faults = (refl, refl, refl, refl, refl, refl, refl, refl)
