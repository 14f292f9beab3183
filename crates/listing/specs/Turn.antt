-- The text of a call's answer. Assumes nothing.
use Rattle.std.specs.Prelude.{ℕ, List, replicate, Float}
use Rattle.base.specs.Single.{decimal}
use Rattle.worksheet.specs.declared.journal.Answer.{Answer as Handed}
use Rattle.worksheet.specs.declared.journal.Answer.TheVariants.{Told, Shown}
use Rattle.worksheet.specs.Journal.{Answer, told, shown}
use Rattle.listing.specs.Answer.{verdict_text, shown_text}

-- the figures buffer that the programs lend to each showing
abbrev pub blank : List Float
blank = replicate 151 (decimal 0 1)

-- of an answer as demand 3 has it
unfoldable pub answer_text : Answer → List ℕ
answer_text (told v) = verdict_text v
answer_text (shown s after) = shown_text s after

-- ---- on the way: nothing below need be believed

-- Only private contracts and proofs use what follows.

-- the same of an answer as it is handed back, with the buffer beside it
unfoldable pub handed_text : Handed → List Float → List ℕ
handed_text (Told v) figures = verdict_text v
handed_text (Shown s) figures = shown_text s figures
