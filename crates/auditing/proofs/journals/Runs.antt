-- A call that is made on a worksheet is a step of its run; and the run of a journal's calls with one
-- call more: its entries, their marks and the lines' numbers, by the calls in their order. Assumes
-- nothing.
use Rattle.std.proofs.Common.{Err, Ok, ℕ, suc, Bool, List, [], ◌∷◌, ◌++◌, ◌≡◌, refl, ap, ◌∙◌, length}
use Rattle.worksheet.specs.declared.desks.Worksheet.{Worksheet}
use Rattle.worksheet.specs.declared.journal.Call.{Call as ProgramCall}
use Rattle.worksheet.specs.declared.journal.Next.{Next}
use Rattle.worksheet.specs.Showing.{Source}
use Rattle.worksheet.specs.Journal.{Call, Answer, told, shown, Entry, accepted, step, entry_of, run}
use Rattle.worksheet.specs.Calls.{called, handed, next_of}
use Rattle.wording.specs.declared.written.WrittenInputs.{WrittenInputs}
use Rattle.wording.specs.Written.{call_written}
use Rattle.listing.specs.Turn.{blank}
use Rattle.listing.proofs.pieces.Turns.{run_last}
use Rattle.auditing.specs.Marks.{sort_of, desk_of, mark_with, mark_of, marks_of}
use Rattle.auditing.specs.Gathered.{Numbered, calls_told, numbers_told, sheet_opened, run_told, handed_good}

-- ---- a call and its mark

handed_good_law : (a : Answer) → handed_good (handed a) ≡ accepted a
unfolding handed_good
handed_good_law (told (Ok _)) = refl
handed_good_law (told (Err why)) = refl
handed_good_law (shown (Ok count) after) = refl
handed_good_law (shown (Err why) after) = refl

pub made_as :
    (source : Source) (c : ProgramCall) (w : Worksheet) {call : ProgramCall} {next : Next} {good : Bool} {mark : ℕ} →
    call ≡ c → next ≡ next_of (step source (called call blank) w) → good ≡ handed_good next.answer →
    mark ≡ mark_with (sort_of (called call blank)) good (desk_of (called call blank)) →
    record { sheet : next.sheet ≡ (step source (called c blank) w).sheet; mark : mark ≡ mark_of (entry_of source (called c blank) w) }
unfolding next_of mark_of
made_as source c w {call} {next} {good} {mark} p q g m =
    let e : next ≡ next_of (step source (called c blank) w) =
    q ∙ ap (λ (x : ProgramCall). next_of (step source (called x blank) w)) p in
    let a = (step source (called c blank) w).answer in
    let f : good ≡ accepted a = g ∙ ap (λ (x : Next). handed_good x.answer) e ∙ handed_good_law a in
    record {
      sheet = ap (λ (x : Next). x.sheet) e;
      mark =
          m
          ∙ ap (λ (x : ProgramCall). mark_with (sort_of (called x blank)) good (desk_of (called x blank))) p
          ∙ ap (λ (b : Bool). mark_with (sort_of (called c blank)) b (desk_of (called c blank))) f;
    }

-- ---- one more, in each list

run_entries :
    (source : Source) (cs : List Call) (c : Call) (w : Worksheet) →
    (run source (cs ++ (c ∷ [])) w).entries
    ≡ (run source cs w).entries ++ (entry_of source c (run source cs w).sheet ∷ [])
unfolding run
run_entries source [] c w = refl
run_entries source (x ∷ cs) c w =
    ap (λ (l : List Entry). entry_of source x w ∷ l) (run_entries source cs c (step source x w).sheet)

marks_both : (l m : List Entry) → marks_of (l ++ m) ≡ marks_of l ++ marks_of m
unfolding marks_of
marks_both [] m = refl
marks_both (x ∷ l) m = ap (λ (y : List ℕ). mark_of x ∷ y) (marks_both l m)

marks_one : (x : Entry) → marks_of (x ∷ []) ≡ mark_of x ∷ []
unfolding marks_of
marks_one x = refl

calls_more :
    (cs : List Numbered) (x : Numbered) →
    calls_told (cs ++ (x ∷ [])) ≡ calls_told cs ++ (called (call_written x.call) blank ∷ [])
unfolding calls_told
calls_more [] x = refl
calls_more (y ∷ cs) x = ap (λ (l : List Call). called (call_written y.call) blank ∷ l) (calls_more cs x)

pub numbers_more : (cs : List Numbered) (x : Numbered) → numbers_told (cs ++ (x ∷ [])) ≡ numbers_told cs ++ (x.line ∷ [])
unfolding numbers_told
numbers_more [] x = refl
numbers_more (y ∷ cs) x = ap (λ (l : List ℕ). y.line ∷ l) (numbers_more cs x)

-- ---- how many there are

run_length : (source : Source) (cs : List Call) (w : Worksheet) → length (run source cs w).entries ≡ length cs
unfolding run
run_length source [] w = refl
run_length source (c ∷ cs) w = ap suc (run_length source cs (step source c w).sheet)

marks_length : (l : List Entry) → length (marks_of l) ≡ length l
unfolding marks_of
marks_length [] = refl
marks_length (x ∷ l) = ap suc (marks_length l)

calls_length : (cs : List Numbered) → length (calls_told cs) ≡ length cs
unfolding calls_told
calls_length [] = refl
calls_length (x ∷ cs) = ap suc (calls_length cs)

pub numbers_length : (cs : List Numbered) → length (numbers_told cs) ≡ length cs
unfolding numbers_told
numbers_length [] = refl
numbers_length (x ∷ cs) = ap suc (numbers_length cs)

-- ---- of a journal

module _ (source : Source) (o : WrittenInputs) (cs : List Numbered) where
  pub entries_length : length (run_told source o cs).entries ≡ length cs
  entries_length = run_length source (calls_told cs) (sheet_opened o) ∙ calls_length cs

  pub marked_length : length (marks_of (run_told source o cs).entries) ≡ length cs
  marked_length = marks_length (run_told source o cs).entries ∙ entries_length

  pub sheet_more :
      (x : Numbered) →
      (run_told source o (cs ++ (x ∷ []))).sheet
      ≡ (step source (called (call_written x.call) blank) (run_told source o cs).sheet).sheet
  sheet_more x =
      ap (λ (l : List Call). (run source l (sheet_opened o)).sheet) (calls_more cs x)
      ∙ run_last source (calls_told cs) (called (call_written x.call) blank) (sheet_opened o)

  pub marked_more :
      (x : Numbered) →
      marks_of (run_told source o (cs ++ (x ∷ []))).entries
      ≡ marks_of (run_told source o cs).entries
      ++ (mark_of (entry_of source (called (call_written x.call) blank) (run_told source o cs).sheet) ∷ [])
  marked_more x =
      let call = called (call_written x.call) blank in
      let last = entry_of source call (run_told source o cs).sheet in
      ap (λ (l : List Call). marks_of (run source l (sheet_opened o)).entries) (calls_more cs x)
      ∙ ap marks_of (run_entries source (calls_told cs) call (sheet_opened o))
      ∙ marks_both (run_told source o cs).entries (last ∷ [])
      ∙ ap (λ (l : List ℕ). marks_of (run_told source o cs).entries ++ l) (marks_one last)
