-- What is wrong with a line of a journal, in words for people. Assumes nothing.
use Rattle.std.specs.Prelude.{ℕ, List, ◌++◌}
use Prim.Native.String.{String}
use Rattle.wording.specs.declared.line.Wanted.{Wanted}
use Rattle.wording.specs.declared.line.Wanted.TheVariants.{Start, Deed, Word, Number, Whole, Model, Nothing}
use Rattle.wording.specs.declared.line.Fault.{Fault}
use Rattle.wording.specs.Token.{ascii, name_of}
use Rattle.listing.specs.Text.{decimal_of}
use Rattle.listing.specs.Spoken.{line_mark}

abbrev pub should_be : String → List ℕ
should_be s = ascii "should be " ++ ascii s

-- what is said of the word that does not fit, by what should have stood there
unfoldable pub wanted_text : Wanted → List ℕ
wanted_text Start = should_be "open, show, take back or a desk's number"
wanted_text Deed = should_be "begin, sunspot, hour, month, model, path, factors, pole, show, commit or cancel"
wanted_text (Word w) = should_be (name_of w)
wanted_text Number = should_be "a number: digits with sign and point, at most 18 of them"
wanted_text Whole = should_be "a whole number below 4294967296"
wanted_text Model = should_be "ccir or ursi"
wanted_text Nothing = ascii "is one too many"

-- as `line 7: no call: word 2 should be ccir or ursi`
unfoldable pub fault_text : ℕ → Fault → List ℕ
fault_text line f =
    ascii "line "
    ++ (decimal_of line
    ++ (ascii ": no call: word " ++ (decimal_of f.word ++ (ascii " " ++ (wanted_text f.wanted ++ ascii "\n")))))

-- of an open where the worksheet is open, and of a call before the open
unfoldable pub again_text : ℕ → List ℕ
again_text line = line_mark line ++ ascii "no call: the worksheet is open already\n"

unfoldable pub unopened_text : ℕ → List ℕ
unopened_text line = line_mark line ++ ascii "no call: a journal begins with open\n"
