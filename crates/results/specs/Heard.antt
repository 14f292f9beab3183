-- A sitter's question: is what was said to me of a journal's lines what the run of its calls answers?
-- The hearing of a line is that of crates/sitting/specs/Sitting.antt, and what the lines told, with
-- the run, that of crates/auditing/specs/Gathered.antt. `desk` hears lines of fewer than 65,536 bytes
-- only: a longer one ends its journal, which no definition here says. Assumes nothing.
use Rattle.std.specs.Prelude.{ℕ, suc, ◌<◌, List, [], ◌∷◌, ◌++◌, ◌≡◌, length, take, get_or, Err, Ok}
use Rattle.base.specs.declared.refusal.Refusal.{Refusal}
use Rattle.worksheet.specs.declared.desks.Worksheet.{Worksheet}
use Rattle.worksheet.specs.Desks.{open_of}
use Rattle.worksheet.specs.Showing.{Source}
use Rattle.worksheet.specs.Journal.{run, step, entry_of}
use Rattle.worksheet.specs.Calls.{called}
use Rattle.wording.specs.declared.line.Fault.{Fault}
use Rattle.wording.specs.declared.line.Line.{Line}
use Rattle.wording.specs.declared.line.Line.TheVariants as line
use Rattle.wording.specs.declared.written.WrittenCall.{WrittenCall}
use Rattle.wording.specs.declared.written.WrittenInputs.{WrittenInputs}
use Rattle.wording.specs.Line.{line_in}
use Rattle.wording.specs.Written.{inputs_written, call_written}
use Rattle.listing.specs.Turn.{blank}
use Rattle.listing.specs.Spoken.{spoken_verdict, spoken_text, inputs_asked}
use Rattle.listing.specs.Fault.{fault_text, again_text, unopened_text}
use Rattle.sitting.specs.declared.Sitting.{Sitting}
use Rattle.sitting.specs.declared.Sitting.TheVariants.{Waiting, Open, Ended}
use Rattle.sitting.specs.Sitting.{Hearing, hearing}
use Rattle.auditing.specs.Gathered.{text_lines, Numbered, Told, waiting, sits, ended, told_by, calls_told, sheet_opened, run_told}

-- ---- words of this page

-- line m + 1 of a text
abbrev pub line_after : List ℕ → ℕ → List ℕ
line_after text m = get_or (text_lines text) m []

-- the sitting waits for its open, and it has ended; each on whatever worksheet
abbrev pub IsWaiting : Sitting → Type 0
IsWaiting s = (w : Worksheet) × (s ≡ Waiting w)

abbrev pub HasEnded : Sitting → Type 0
HasEnded s = (w : Worksheet) × (s ≡ Ended w)

-- what is said of line n where it ends a journal, by what the lines before it told and what it reads as:
-- of a line that is no call the word that does not fit, of an open after the open that there was one, of
-- a call before the open that there was none, and of an open that is refused its refusal
pub data EndingText (n : ℕ) : Told → Line → List ℕ → Type 0 where
  no_call : {t : Told} {f : Fault} → EndingText n t (line.Wrong f) (fault_text n f)
  open_again :
      {o p : WrittenInputs} {at : ℕ} {cs : List Numbered} →
      EndingText n (sits o at cs) (line.Open p) (again_text n)
  not_open : {c : WrittenCall} → EndingText n waiting (line.Call c) (unopened_text n)
  open_refused :
      {o : WrittenInputs} {why : Refusal} → (open_of (inputs_written o)).answer ≡ Err why →
      EndingText n waiting (line.Open o) (spoken_verdict n (Err why))

module _ (source : Source) where
  -- lines, of which the first is line n, each heard on the sitting that the one before left; and all
  -- that is said of them, one after the other
  unfoldable pub heard_from : ℕ → Sitting → List (List ℕ) → Hearing
  heard_from n s [] = record { sitting = s; text = [] }
  heard_from n s (l ∷ ls) =
      let first = hearing source n s l in
      let others = heard_from (suc n) first.sitting ls in
      record { sitting = others.sitting; text = first.text ++ others.text }

  -- THE HEARING of the first k lines of a text
  abbrev pub heard_by : Sitting → List ℕ → ℕ → Hearing
  heard_by s text k = heard_from 1 s (take k (text_lines text))

  -- that of line m + 1 by itself, on the sitting that the first m lines left
  abbrev pub line_heard : Sitting → List ℕ → ℕ → Hearing
  line_heard s text m = hearing source (suc m) (heard_by s text m).sitting (line_after text m)

  -- the answers to calls on a worksheet in words, each call on the sheet that the one before left
  unfoldable pub said_of : Worksheet → List Numbered → List ℕ
  said_of w [] = []
  said_of w (x ∷ cs) =
      let next = step source (called (call_written x.call) blank) w in
      spoken_text x.line (inputs_asked (call_written x.call) w) next.answer ++ said_of next.sheet cs

  -- of the open o on line `at` and the calls cs after it: the worksheet is the one that their run
  -- leaves, and what was said is that the open is accepted, and the answers of that run
  pub record HeardRun (o : WrittenInputs) (at : ℕ) (cs : List Numbered) (h : Hearing) : Type 0 where
    pub sitting : h.sitting ≡ Open (run_told source o cs).sheet
    pub text : h.text ≡ spoken_verdict at (Ok tt) ++ said_of (sheet_opened o) cs

  -- one of the first k lines of a text ended the journal
  pub record EndedAt (s : Sitting) (text : List ℕ) (k : ℕ) : Type 0 where
    -- how many lines stand before it
    pub before : ℕ
    pub among : before < k
    pub there : before < length (text_lines text)
    -- these did not end the journal, and with that line it ended
    pub not_ended : told_by text before ≡ ended → ⊥
    pub ended_by : told_by text (suc before) ≡ ended
    -- what is said of all k lines is what is said of these, and then what is said of that line by itself:
    -- of the lines after it nothing is said
    pub said : (heard_by s text k).text ≡ (heard_by s text before).text ++ (line_heard s text before).text
    -- and this is one of four texts, by what that line reads as
    pub ending :
        EndingText (suc before) (told_by text before) (line_in (line_after text before)) (line_heard s text before).text
    -- and the sitting has ended
    pub sitting : HasEnded (heard_by s text k).sitting

-- ---- what the first k lines of a text leave, heard from the first on

-- While they told nothing, being blank, the sitting is as it was, and nothing is said
abbrev pub HeardWaiting : Type 0
HeardWaiting =
    (source : Source) (s : Sitting) → IsWaiting s → (text : List ℕ) (k : ℕ) → told_by text k ≡ waiting →
    let h = heard_by source s text k in
    (h.sitting ≡ s) × (h.text ≡ [])

-- Where they told an open and calls, the worksheet is open, it is the one that the run of these
-- calls leaves, and what is said is that the open is accepted and the answers of that run
abbrev pub HeardSits : Type 0
HeardSits =
    (source : Source) (s : Sitting) → IsWaiting s →
    (text : List ℕ) (k : ℕ) (o : WrittenInputs) (at : ℕ) (cs : List Numbered) → told_by text k ≡ sits o at cs →
    HeardRun source o at cs (heard_by source s text k)

-- Where they ended the journal, one of them did, being no call, an open after the open, a call before it
-- or an open that is refused. What is said is what is said of the lines before it, then of that line why
-- it ended the journal, and nothing of the lines after it; and the sitting has ended
abbrev pub HeardEnded : Type 0
HeardEnded =
    (source : Source) (s : Sitting) → IsWaiting s → (text : List ℕ) (k : ℕ) → told_by text k ≡ ended →
    EndedAt source s text k

-- ---- the answers

-- Every call has its part of what is said: of the call x after the calls `front` it is the text of an
-- answer, and in the run of all the calls this is the answer of the entry after those of `front`. A
-- showing's text has the inputs that it asks to see on the worksheet that these calls left
abbrev pub SaidEntries : Type 0
SaidEntries =
    (source : Source) (w : Worksheet) (front : List Numbered) (x : Numbered) (later : List Numbered) →
    let before = run source (calls_told front) w in
    let entry = entry_of source (called (call_written x.call) blank) before.sheet in
    let after = (step source (called (call_written x.call) blank) before.sheet).sheet in
    (said_of source w (front ++ (x ∷ later))
    ≡ said_of source w front
    ++ (spoken_text x.line (inputs_asked (call_written x.call) before.sheet) entry.answer
    ++ said_of source after later))
    × ((run source (calls_told (front ++ (x ∷ later))) w).entries
    ≡ before.entries ++ (entry ∷ (run source (calls_told later) after).entries))

-- ---- the files lent

-- The sitting that lines leave is the same over any files, and whatever the numbers of the lines
abbrev pub SilentSame : Type 0
SilentSame =
    (source other : Source) (n m : ℕ) (s : Sitting) (ls : List (List ℕ)) →
    (heard_from source n s ls).sitting ≡ (heard_from other m s ls).sitting
