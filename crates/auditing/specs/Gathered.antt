-- What the first lines of a journal told: the open, and the calls after it with their lines. And
-- what an audit keeps of them. Assumes nothing.
use Rattle.std.specs.Prelude.{ℕ, suc, ◌+◌, min, ◌≤◌, ◌<◌, Bool, true, false, cond, List, [], ◌∷◌, ◌++◌, ◌≡◌, eqb, length, take, drop, get_or, set, Err, Ok, is_ok}
use Rattle.base.specs.Refusal.{Verdict}
use Rattle.worksheet.specs.declared.desks.Worksheet.{Worksheet}
use Rattle.worksheet.specs.declared.journal.Answer.{Answer as Handed}
use Rattle.worksheet.specs.declared.journal.Answer.TheVariants as handed
use Rattle.worksheet.specs.Desks.{open_of}
use Rattle.worksheet.specs.Showing.{Source}
use Rattle.worksheet.specs.Journal.{Call, Run, run, step, entry_of}
use Rattle.worksheet.specs.Calls.{called}
use Rattle.wording.specs.declared.line.Line.{Line}
use Rattle.wording.specs.declared.line.Line.TheVariants as line
use Rattle.wording.specs.declared.written.WrittenCall.{WrittenCall}
use Rattle.wording.specs.declared.written.WrittenCall.TheVariants.{TakeBack}
use Rattle.wording.specs.declared.written.WrittenInputs.{WrittenInputs}
use Rattle.wording.specs.Line.{line_in}
use Rattle.wording.specs.Written.{inputs_written, call_written}
use Rattle.listing.specs.Turn.{blank}
use Rattle.auditing.specs.declared.gathering.Stage.{Stage}
use Rattle.auditing.specs.declared.gathering.Stage.TheVariants.{Waiting, Sits, Ended}
use Rattle.auditing.specs.declared.gathering.Gathered.{Gathered}
use Rattle.auditing.specs.Marks.{mark_of, marks_of}

-- ---- the lines of a text

-- each ends with a newline; w holds the bytes of the line that was begun. What follows the last
-- newline is no line
unfoldable pub lines_from : List ℕ → List ℕ → List (List ℕ)
lines_from w [] = []
lines_from w (c ∷ l) = cond (eqb c 10) (w ∷ lines_from [] l) (lines_from (w ++ (c ∷ [])) l)

abbrev pub text_lines : List ℕ → List (List ℕ)
text_lines text = lines_from [] text

-- ---- what they told

-- a call, and the number of its line
pub record Numbered : Type 0 where
  pub call : WrittenCall
  pub line : ℕ

pub data Told : Type 0 where
  -- nothing but blank lines so far
  waiting : Told
  -- the open with the number of its line, and the calls after it in their order
  sits : (opening : WrittenInputs) → (opened_at : ℕ) → (calls : List Numbered) → Told
  -- a line was no call, or the open was refused
  ended : Told

abbrev pub opened_told : ℕ → WrittenInputs → Verdict → Told
opened_told n o (Ok _) = sits o n []
opened_told n o (Err why) = ended

-- with line n
abbrev pub telling : ℕ → Told → Line → Told
telling n waiting line.Blank = waiting
telling n waiting (line.Open o) = opened_told n o (open_of (inputs_written o)).answer
telling n waiting (line.Call c) = ended
telling n waiting (line.Wrong f) = ended
telling n (sits o at cs) line.Blank = sits o at cs
telling n (sits o at cs) (line.Open p) = ended
telling n (sits o at cs) (line.Call c) = sits o at (cs ++ (record { call = c; line = n } ∷ []))
telling n (sits o at cs) (line.Wrong f) = ended
telling n ended l = ended

-- with lines, of which the first is line n
unfoldable pub told_from : ℕ → Told → List (List ℕ) → Told
told_from n t [] = t
told_from n t (l ∷ ls) = told_from (suc n) (telling n t (line_in l)) ls

-- THE CALLS of the first k lines of a text
unfoldable pub told_by : List ℕ → ℕ → Told
told_by text k = told_from 1 waiting (take k (text_lines text))

-- ---- as calls on a worksheet, each showing with a buffer of zeros

unfoldable pub calls_told : List Numbered → List Call
calls_told [] = []
calls_told (x ∷ l) = called (call_written x.call) blank ∷ calls_told l

unfoldable pub numbers_told : List Numbered → List ℕ
numbers_told [] = []
numbers_told (x ∷ l) = x.line ∷ numbers_told l

abbrev pub sheet_opened : WrittenInputs → Worksheet
sheet_opened o = (open_of (inputs_written o)).sheet

-- THE RUN of a journal
abbrev pub run_told : Source → WrittenInputs → List Numbered → Run
run_told source o cs = run source (calls_told cs) (sheet_opened o)

-- ---- what an audit gathers

-- the bytes before the first newline
unfoldable pub first_line : List ℕ → List ℕ
first_line [] = []
first_line (c ∷ l) = cond (eqb c 10) [] (c ∷ first_line l)

-- the line that begins at byte s of a text
abbrev pub line_at : List ℕ → ℕ → List ℕ
line_at text s = first_line (drop s text)

-- from byte s on, up to a newline, a text reads as l
pub record ReadsAt (text : List ℕ) (s : ℕ) (l : Line) : Type 0 where
  pub within : s ≤ length text
  pub said : line_in (line_at text s) ≡ l

-- call i of those that were told, counted from 0; a take-back past their end
abbrev pub call_told : List Numbered → ℕ → WrittenCall
call_told cs i = (get_or cs i (record { call = TakeBack; line = 0 })).call

-- a buffer holds the first `count` of some numbers, as many of them as it has room for
abbrev pub HoldsFirst : ℕ → List ℕ → List ℕ → Type 0
HoldsFirst count xs buffer = let n = min count (length buffer) in take n buffer ≡ take n xs

-- no calls are gathered
abbrev pub GatheredNone : Stage → Gathered → Type 0
GatheredNone stage r = (r.stage ≡ stage) × (r.count ≡ 0)

module _ (source : Source) (text : List ℕ) where
  -- of the open o on line `at` and the calls cs after it
  pub record GatheredSits
      (o : WrittenInputs) (at : ℕ) (cs : List Numbered) (r : Gathered) (marks numbers starts : List ℕ) : Type 0 where
    pub stage : r.stage ≡ Sits
    pub opened : r.opened ≡ at
    pub count : r.count ≡ length cs
    pub sheet : r.sheet ≡ (run_told source o cs).sheet
    -- of every call its mark and the number of its line
    pub marked : HoldsFirst r.count (marks_of (run_told source o cs).entries) marks
    pub numbered : HoldsFirst r.count (numbers_told cs) numbers
    -- and a byte from which on the text reads as it; so of the open
    pub start : ReadsAt text r.start (line.Open o)
    pub starts_at :
        (i : ℕ) → i < r.count → i < length starts → ReadsAt text (get_or starts i 0) (line.Call (call_told cs i))

  -- of what was told
  unfoldable pub GatheredAs : Told → Gathered → List ℕ → List ℕ → List ℕ → Type 0
  GatheredAs waiting r marks numbers starts = GatheredNone Waiting r
  GatheredAs (sits o at cs) r marks numbers starts = GatheredSits o at cs r marks numbers starts
  GatheredAs ended r marks numbers starts = GatheredNone Ended r

  -- WHAT IS GATHERED from the first k lines of the text
  abbrev pub Gathers : ℕ → Gathered → List ℕ → List ℕ → List ℕ → Type 0
  Gathers k r marks numbers starts = GatheredAs (told_by text k) r marks numbers starts

-- ---- on the way: nothing below need be believed

-- whether an answer that was handed back is no refusal
unfoldable pub handed_good : Handed → Bool
handed_good (handed.Told v) = is_ok v
handed_good (handed.Shown s) = is_ok s

abbrev pub stage_of : Verdict → Stage
stage_of (Ok _) = Sits
stage_of (Err why) = Ended

-- what is gathered of the open o alone, on line n, which begins at byte s
unfoldable pub opened_as : WrittenInputs → ℕ → ℕ → Gathered
opened_as o n s =
    let first = open_of (inputs_written o) in
    record { stage = stage_of first.answer; sheet = first.sheet; count = 0; opened = n; start = s }

-- what is gathered, with the three buffers
pub record Gathering : Type 0 where
  pub gathered : Gathered
  pub marks : List ℕ
  pub numbers : List ℕ
  pub starts : List ℕ

abbrev pub gathering : Gathered → List ℕ → List ℕ → List ℕ → Gathering
gathering g marks numbers starts = record { gathered = g; marks = marks; numbers = numbers; starts = starts }

module _ (source : Source) where
  -- with the call c of line n, which begins at byte s
  unfoldable pub with_call : WrittenCall → ℕ → ℕ → Gathering → Gathering
  with_call c n s h =
      let g = h.gathered in
      let call = called (call_written c) blank in
      gathering
      (record {
        stage = Sits;
        sheet = (step source call g.sheet).sheet;
        count = g.count + 1;
        opened = g.opened;
        start = g.start;
      })
      (set h.marks g.count (mark_of (entry_of source call g.sheet)))
      (set h.numbers g.count n)
      (set h.starts g.count s)

  abbrev pub GatheringAs : List ℕ → Told → Gathering → Type 0
  GatheringAs text t h = GatheredAs source text t h.gathered h.marks h.numbers h.starts

  -- with line n, which is l, h goes on to h', in whatever text the line begins at byte s
  unfoldable pub GoesOn : ℕ → ℕ → Line → Gathering → Gathering → Type 0
  GoesOn n s l h h' =
      (text : List ℕ) (t : Told) → ReadsAt text s l → GatheringAs text t h →
      GatheringAs text (telling n t l) h'
