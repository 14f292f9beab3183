-- What is said of calls, and the run of calls, cut in two at any call: by the calls in their order.
-- Assumes nothing.
use Rattle.std.proofs.Common.{ℕ, List, [], ◌∷◌, ◌++◌, append-nil, append_assoc, ◌≡◌, refl, sym, ap, ◌∙◌}
use Rattle.worksheet.specs.declared.desks.Worksheet.{Worksheet}
use Rattle.worksheet.specs.Showing.{Source}
use Rattle.worksheet.specs.Journal.{Call, Entry, run, step, entry_of}
use Rattle.worksheet.specs.Calls.{called}
use Rattle.wording.specs.Written.{call_written}
use Rattle.listing.specs.Turn.{blank}
use Rattle.listing.specs.Spoken.{spoken_text, inputs_asked}
use Rattle.auditing.specs.Gathered.{Numbered, calls_told}
use Rattle.results.specs.Heard.{said_of}

abbrev pub call_of : Numbered → Call
call_of x = called (call_written x.call) blank

module _ (source : Source) where
  -- what is said of the call x on the worksheet w
  abbrev pub answer_said : Numbered → Worksheet → List ℕ
  answer_said x w = spoken_text x.line (inputs_asked (call_written x.call) w) (step source (call_of x) w).answer

  pub said_both :
      (w : Worksheet) (cs ds : List Numbered) →
      said_of source w (cs ++ ds) ≡ said_of source w cs ++ said_of source (run source (calls_told cs) w).sheet ds
  unfolding said_of run calls_told
  said_both w [] ds = refl
  said_both w (x ∷ cs) ds =
      let v = (step source (call_of x) w).sheet in
      ap (λ (l : List ℕ). answer_said x w ++ l) (said_both v cs ds)
      ∙ sym (append_assoc (answer_said x w) (said_of source v cs) (said_of source (run source (calls_told cs) v).sheet ds))

  -- one call more
  pub said_more :
      (w : Worksheet) (cs : List Numbered) (x : Numbered) →
      said_of source w (cs ++ (x ∷ [])) ≡ said_of source w cs ++ answer_said x (run source (calls_told cs) w).sheet
  unfolding said_of
  said_more w cs x =
      said_both w cs (x ∷ [])
      ∙ ap (λ (l : List ℕ). said_of source w cs ++ l) (append-nil (answer_said x (run source (calls_told cs) w).sheet))

  pub run_both :
      (w : Worksheet) (cs ds : List Numbered) →
      (run source (calls_told (cs ++ ds)) w).entries
      ≡ (run source (calls_told cs) w).entries ++ (run source (calls_told ds) (run source (calls_told cs) w).sheet).entries
  unfolding run calls_told
  run_both w [] ds = refl
  run_both w (x ∷ cs) ds =
      ap (λ (l : List Entry). entry_of source (call_of x) w ∷ l) (run_both (step source (call_of x) w).sheet cs ds)
