-- What a call of a journal is answered, in words for people. Assumes nothing.
use Rattle.base.specs.declared.refusal.Refusal.{Refusal}
use Rattle.std.specs.Prelude.{ℕ, cond, List, ◌++◌, eqb, Float, Err, Ok, Result}
use Prim.Native.String.{String}
use Rattle.base.specs.Refusal.{Verdict}
use Rattle.maps.specs.declared.inputs.Inputs.{Inputs}
use Rattle.worksheet.specs.declared.desks.Worksheet.{Worksheet}
use Rattle.worksheet.specs.declared.journal.Call.{Call}
use Rattle.worksheet.specs.declared.journal.Call.TheVariants.{Begin, Change, Commit, Cancel, TakeBack, Show}
use Rattle.worksheet.specs.declared.journal.Answer.{Answer as Handed}
use Rattle.worksheet.specs.declared.journal.Answer.TheVariants.{Told, Shown as ShownTo}
use Rattle.worksheet.specs.Showing.{inputs_shown}
use Rattle.worksheet.specs.Journal.{Answer, told, shown}
use Rattle.wording.specs.Token.{ascii}
use Rattle.listing.specs.Text.{decimal_of}
use Rattle.listing.specs.Survey.{refused_line}
use Rattle.listing.specs.Columns.{columns_text}

-- `line 12: `, the number being that of the journal's line
unfoldable pub line_mark : ℕ → List ℕ
line_mark line = ascii "line " ++ (decimal_of line ++ ascii ": ")

unfoldable pub verdict_words : Verdict → List ℕ
verdict_words (Ok _) = ascii "accepted\n"
verdict_words (Err why) = refused_line why

abbrev pub points_noun : ℕ → String
points_noun count = cond (eqb count 1) " point\n" " points\n"

-- `shown, 3 points`, the page and an empty line
unfoldable pub points_words : Inputs → ℕ → List Float → List ℕ
points_words i count figures =
    ascii "shown, "
    ++ (decimal_of count
    ++ (ascii (points_noun count) ++ (columns_text i count figures ++ ascii "\n")))

unfoldable pub shown_words : Inputs → Result ℕ Refusal → List Float → List ℕ
shown_words i (Ok count) figures = points_words i count figures
shown_words i (Err why) figures = refused_line why

-- of an answer as demand 3 has it, a showing's being of the inputs i
unfoldable pub spoken_text : ℕ → Inputs → Answer → List ℕ
spoken_text line i (told v) = line_mark line ++ verdict_words v
spoken_text line i (shown s figures) = line_mark line ++ shown_words i s figures

-- of an opening
unfoldable pub spoken_verdict : ℕ → Verdict → List ℕ
spoken_verdict line v = line_mark line ++ verdict_words v

-- the inputs that a call asks to see; of one that shows nothing those of the worksheet stand here,
-- and no text has them
unfoldable pub inputs_asked : Call → Worksheet → Inputs
inputs_asked (Show n) w = inputs_shown n w
inputs_asked (Begin n) w = w.inputs
inputs_asked (Change n e) w = w.inputs
inputs_asked (Commit n) w = w.inputs
inputs_asked (Cancel n) w = w.inputs
inputs_asked TakeBack w = w.inputs

-- ---- on the way: nothing below need be believed

-- Only private contracts and proofs use what follows.

-- the desk that a call asks to see; 0, the worksheet, of one that shows nothing
abbrev pub desk_asked : Call → ℕ
desk_asked (Show n) = n
desk_asked (Begin n) = 0
desk_asked (Change n e) = 0
desk_asked (Commit n) = 0
desk_asked (Cancel n) = 0
desk_asked TakeBack = 0

-- the words of an answer as it is handed back, with the buffer beside it
unfoldable pub handed_words : Inputs → Handed → List Float → List ℕ
handed_words i (Told v) figures = verdict_words v
handed_words i (ShownTo s) figures = shown_words i s figures
