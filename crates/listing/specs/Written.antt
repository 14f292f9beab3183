-- A written call as text, as wording/specs/Line.antt reads it back. Assumes nothing.
use Rattle.std.specs.Prelude.{ℕ, zero, suc, ◌/◌, ◌^◌, cond, List, [], ◌∷◌, ◌++◌, eqb}
use Rattle.wording.specs.declared.number.Decimal.{Decimal}
use Rattle.wording.specs.declared.line.Line.{Line}
use Rattle.wording.specs.declared.line.Line.TheVariants.{Blank, Open, Call, Wrong}
use Rattle.wording.specs.declared.written.WrittenRoute.{WrittenRoute}
use Rattle.wording.specs.declared.written.WrittenFactors.{WrittenFactors}
use Rattle.wording.specs.declared.written.WrittenPole.{WrittenPole}
use Rattle.wording.specs.declared.written.WrittenInputs.{WrittenInputs}
use Rattle.wording.specs.declared.written.WrittenEdit.{WrittenEdit}
use Rattle.wording.specs.declared.written.WrittenEdit.TheVariants.{Sunspot, Hour, Path, Psc, Pole, Month, Model}
use Rattle.wording.specs.declared.written.WrittenCall.{WrittenCall}
use Rattle.wording.specs.declared.written.WrittenCall.TheVariants.{Begin, Change, Commit, Cancel, TakeBack, Show}
use Rattle.wording.specs.Number.{is_written}
use Rattle.wording.specs.Token.{ascii}
use Rattle.listing.specs.Text.{digit_of, decimal_of}
use Rattle.listing.specs.Decimal.{minus_of}

-- ---- numbers, digit for digit as they were written, zeros in front left out

-- the digits of n for 10 ^ (k - 1) down to 1
unfoldable pub places_text : ℕ → ℕ → List ℕ
places_text n zero = []
places_text n (suc k) = digit_of n k ∷ places_text n k

-- a point and the digits after it, where there are any
unfoldable pub fraction_text : Decimal → List ℕ
fraction_text d = cond (eqb d.places 0) [] (ascii "." ++ places_text d.digits d.places)

-- as `-21.90`
unfoldable pub digits_text : Decimal → List ℕ
digits_text d = minus_of d.negative ++ (decimal_of (d.digits / 10 ^ d.places) ++ fraction_text d)

-- a line that was read has no other number
unfoldable pub number_text : Decimal → List ℕ
number_text d = cond (is_written d) (digits_text d) (ascii "no number")

-- two numbers with a blank between
unfoldable pub pair_text : Decimal → Decimal → List ℕ
pair_text a b = number_text a ++ (ascii " " ++ number_text b)

-- ---- the parts of the inputs

unfoldable pub long_word : ℕ → List ℕ
long_word flag = cond (eqb flag 0) [] (ascii " long")

-- as `from 62.47 6.15 to 64.13 -21.9 long`
unfoldable pub route_text : WrittenRoute → List ℕ
route_text p =
    ascii "from "
    ++ (pair_text p.tlat p.tlong
    ++ (ascii " to " ++ (pair_text p.rlat p.rlong ++ long_word p.long_path)))

unfoldable pub factors_text : WrittenFactors → List ℕ
factors_text p = ascii "factors " ++ (pair_text p.e p.f1 ++ (ascii " " ++ pair_text p.f2 p.es))

unfoldable pub pole_text : WrittenPole → List ℕ
pole_text p = ascii "pole " ++ pair_text p.lat p.lon

unfoldable pub model_text : ℕ → List ℕ
model_text m = ascii "model " ++ cond (eqb m 0) (ascii "ccir") (ascii "ursi")

-- ---- calls

-- as `open month 6 sunspot 80 hour 12 from 62.47 6.15 to 64.13 -21.9 factors 1 1 1 1 pole 78.5 -69
-- model ccir`: all that an open can say
unfoldable pub open_text : WrittenInputs → List ℕ
open_text o =
    ascii "open month "
    ++ (decimal_of o.month
    ++ (ascii " sunspot "
    ++ (number_text o.ssn
    ++ (ascii " hour "
    ++ (number_text o.gmt
    ++ (ascii " "
    ++ (route_text o.route
    ++ (ascii " "
    ++ (factors_text o.psc ++ (ascii " " ++ (pole_text o.pole ++ (ascii " " ++ model_text o.model))))))))))))

-- what is changed, as `sunspot 92.5`
unfoldable pub edit_text : WrittenEdit → List ℕ
edit_text (Sunspot d) = ascii "sunspot " ++ number_text d
edit_text (Hour d) = ascii "hour " ++ number_text d
edit_text (Path p) = ascii "path " ++ route_text p
edit_text (Psc p) = factors_text p
edit_text (Pole p) = pole_text p
edit_text (Month m) = ascii "month " ++ decimal_of m
edit_text (Model m) = model_text m

-- desk and deed, as `1 begin`
unfoldable pub deed_text : ℕ → List ℕ → List ℕ
deed_text n deed = decimal_of n ++ (ascii " " ++ deed)

unfoldable pub call_text : WrittenCall → List ℕ
call_text (Begin n) = deed_text n (ascii "begin")
call_text (Change n e) = deed_text n (edit_text e)
call_text (Commit n) = deed_text n (ascii "commit")
call_text (Cancel n) = deed_text n (ascii "cancel")
call_text TakeBack = ascii "take back"
call_text (Show n) = cond (eqb n 0) (ascii "show") (deed_text n (ascii "show"))

-- ---- a line, written anew as it is kept: nothing for one that is no call

abbrev pub line_text : Line → List ℕ
line_text Blank = []
line_text (Open o) = open_text o ++ ascii "\n"
line_text (Call c) = call_text c ++ ascii "\n"
line_text (Wrong f) = []
