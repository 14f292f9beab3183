-- What is gathered goes on with one line more, by what the line is and what was told before it.
-- Assumes nothing.
use Rattle.std.proofs.Common.{Err, Ok, ℕ, ◌+◌, List, [], ◌∷◌, ◌++◌, ◌≡◌, refl, sym, ap, subst, ◌∙◌, arith, set, length-append}
use Rattle.base.specs.Refusal.{Verdict}
use Rattle.worksheet.specs.declared.desks.Worksheet.{Worksheet}
use Rattle.worksheet.specs.Desks.{open_of}
use Rattle.worksheet.specs.Showing.{Source}
use Rattle.worksheet.specs.Journal.{run, step, entry_of}
use Rattle.worksheet.specs.Calls.{called}
use Rattle.wording.specs.declared.line.Line.{Line}
use Rattle.wording.specs.declared.line.Line.TheVariants as line
use Rattle.wording.specs.declared.line.Fault.{Fault}
use Rattle.wording.specs.declared.written.WrittenCall.{WrittenCall}
use Rattle.wording.specs.declared.written.WrittenInputs.{WrittenInputs}
use Rattle.wording.specs.Written.{inputs_written, call_written}
use Rattle.listing.specs.Turn.{blank}
use Rattle.auditing.specs.declared.gathering.Stage.{Stage}
use Rattle.auditing.specs.declared.gathering.Stage.TheVariants.{Waiting, Sits, Ended}
use Rattle.auditing.specs.declared.gathering.Gathered.{Gathered}
use Rattle.auditing.specs.Marks.{mark_of, marks_of}
use Rattle.auditing.specs.Gathered.{Numbered, Told, waiting, sits, ended, opened_told, telling, calls_told, numbers_told, run_told, ReadsAt, HoldsFirst, GatheredNone, GatheredSits, GatheredAs, stage_of, opened_as, Gathering, gathering, with_call, GatheringAs, GoesOn}
use Rattle.auditing.proofs.journals.Runs.{numbers_more, numbers_length, marked_length, sheet_more, marked_more}
use Rattle.auditing.proofs.journals.Buffers.{holds_none, holds_more, starts_more}

-- ---- the open

opened_by_law :
    (source : Source) (text : List ℕ) (o : WrittenInputs) (n s : ℕ) (marks numbers starts : List ℕ) (v : Verdict) →
    (open_of (inputs_written o)).answer ≡ v → ReadsAt text s (line.Open o) →
    GatheredAs source text (opened_told n o v) (opened_as o n s) marks numbers starts
unfolding GatheredAs opened_as run calls_told
opened_by_law source text o n s marks numbers starts (Ok _) e l =
    record {
      stage = ap stage_of e;
      opened = refl;
      count = refl;
      sheet = refl;
      marked = holds_none _ marks;
      numbered = holds_none _ numbers;
      start = l;
      starts_at = λ i h. absurd (omega arith);
    }
opened_by_law source text o n s marks numbers starts (Err why) e l = (ap stage_of e, refl)

-- ---- a call

pub called_as :
    (source : Source) (c : WrittenCall) (n s : ℕ) (g : Gathered) (marks numbers starts : List ℕ)
    {sheet : Worksheet} {mark : ℕ} {marks' numbers' starts' : List ℕ} →
    sheet ≡ (step source (called (call_written c) blank) g.sheet).sheet →
    mark ≡ mark_of (entry_of source (called (call_written c) blank) g.sheet) → marks' ≡ set marks g.count mark →
    numbers' ≡ set numbers g.count n → starts' ≡ set starts g.count s →
    gathering (record { stage = Sits; sheet = sheet; count = g.count + 1; opened = g.opened; start = g.start })
    marks' numbers' starts'
    ≡ with_call source c n s (gathering g marks numbers starts)
unfolding with_call
called_as source c n s g marks numbers starts p m e f d =
    let all = e ∙ ap (set marks g.count) m in
    λ t.
    gathering (record { stage = Sits; sheet = p t; count = g.count + 1; opened = g.opened; start = g.start })
    (all t) (f t) (d t)

-- on the worksheet of the open o and the calls cs
module _ (source : Source) (text : List ℕ) (o : WrittenInputs) (at n s : ℕ) (c : WrittenCall) where
  called_by :
      (cs : List Numbered) (h : Gathering) →
      GatheredSits source text o at cs h.gathered h.marks h.numbers h.starts →
      ReadsAt text s (line.Call c) →
      GatheringAs source text (sits o at (cs ++ (record { call = c; line = n } ∷ []))) (with_call source c n s h)
  unfolding GatheredAs with_call
  called_by cs h g l =
      let x : Numbered = record { call = c; line = n } in
      let call = called (call_written c) blank in
      let k = h.gathered.count in
      let m = g.count in
      let w = h.gathered.sheet in
      let sizes = length-append cs (x ∷ []) in
      let mark = ap (λ (v : Worksheet). mark_of (entry_of source call v)) g.sheet in
      let marks = marks_of (run_told source o cs).entries in
      let numbers = numbers_told cs in
      let all = ap (λ (y : ℕ). marks ++ (y ∷ [])) mark ∙ sym (marked_more source o cs x) in
      record {
        stage = refl;
        opened = g.opened;
        count = omega arith;
        sheet = ap (λ (v : Worksheet). (step source call v).sheet) g.sheet ∙ sym (sheet_more source o cs x);
        marked =
            subst (λ (l : List ℕ). HoldsFirst (k + 1) l (set h.marks k (mark_of (entry_of source call w)))) all
            (holds_more marks h.marks _ k (marked_length source o cs ∙ sym m) g.marked);
        numbered =
            subst (λ (l : List ℕ). HoldsFirst (k + 1) l (set h.numbers k n)) (sym (numbers_more cs x))
            (holds_more numbers h.numbers n k (numbers_length cs ∙ sym m) g.numbered);
        start = g.start;
        starts_at = starts_more text cs x h.starts k s m g.starts_at l;
      }

-- ---- one stage is no other

pub waiting_sits : (x : Stage) → x ≡ Waiting → x ≡ Sits → ⊥
waiting_sits x p q = let z : ◌≡◌ {A = ℕ} 0 1 = cc in omega arith

pub waiting_ended : (x : Stage) → x ≡ Waiting → x ≡ Ended → ⊥
waiting_ended x p q = let z : ◌≡◌ {A = ℕ} 0 1 = cc in omega arith

pub ended_sits : (x : Stage) → x ≡ Ended → x ≡ Sits → ⊥
ended_sits x p q = let z : ◌≡◌ {A = ℕ} 0 1 = cc in omega arith

-- ---- a turn

blank_told : (n : ℕ) (t : Told) → telling n t line.Blank ≡ t
blank_told n waiting = refl
blank_told n (sits o at cs) = refl
blank_told n ended = refl

wrong_told : (n : ℕ) (t : Told) (f : Fault) → telling n t (line.Wrong f) ≡ ended
wrong_told n waiting f = refl
wrong_told n (sits o at cs) f = refl
wrong_told n ended f = refl

module _ (source : Source) (n s : ℕ) where
  pub goes_as : {l l' : Line} (h h' : Gathering) → l ≡ l' → GoesOn source n s l' h h' → GoesOn source n s l h h'
  goes_as h h' e g = subst (λ (x : Line). GoesOn source n s x h h') (sym e) g

  pub goes_blank : (h : Gathering) → GoesOn source n s line.Blank h h
  unfolding GoesOn
  goes_blank h text t e g = subst (λ (u : Told). GatheringAs source text u h) (sym (blank_told n t)) g

  ends :
      (text : List ℕ) (t : Told) (l : Line) (h : Gathering) → telling n t l ≡ ended → GatheredNone Ended h.gathered →
      GatheringAs source text (telling n t l) h
  unfolding GatheredAs
  ends text t l h e g = subst (λ (u : Told). GatheringAs source text u h) (sym e) g

  pub goes_wrong : (f : Fault) (h h' : Gathering) → GatheredNone Ended h'.gathered → GoesOn source n s (line.Wrong f) h h'
  unfolding GoesOn
  goes_wrong f h h' q text t e g = ends text t (line.Wrong f) h' (wrong_told n t f) q

  -- an open, where nothing was told, and where there was something
  pub goes_open :
      (o : WrittenInputs) (g : Gathered) (marks numbers starts : List ℕ) {r : Gathered} → g.stage ≡ Waiting →
      r ≡ opened_as o n s →
      GoesOn source n s (line.Open o) (gathering g marks numbers starts) (gathering r marks numbers starts)
  unfolding GoesOn GatheredAs
  goes_open o g marks numbers starts q p text waiting e h =
      let v = (open_of (inputs_written o)).answer in
      subst (λ (x : Gathered). GatheredAs source text (opened_told n o v) x marks numbers starts) (sym p)
      (opened_by_law source text o n s marks numbers starts v refl e)
  goes_open o g marks numbers starts q p text (sits o₂ at cs) e h = absurd (waiting_sits g.stage q h.stage)
  goes_open o g marks numbers starts q p text ended e h = absurd (waiting_ended g.stage q h.0)

  pub goes_open_late :
      (o : WrittenInputs) (h h' : Gathering) → (h.gathered.stage ≡ Waiting → ⊥) → GatheredNone Ended h'.gathered →
      GoesOn source n s (line.Open o) h h'
  unfolding GoesOn GatheredAs
  goes_open_late o h h' late q text waiting e g = absurd (late g.0)
  goes_open_late o h h' late q text (sits o₂ at cs) e g = q
  goes_open_late o h h' late q text ended e g = q

  -- a call, on a worksheet and with none
  pub goes_call :
      (c : WrittenCall) (h : Gathering) {h' : Gathering} → h.gathered.stage ≡ Sits → h' ≡ with_call source c n s h →
      GoesOn source n s (line.Call c) h h'
  unfolding GoesOn GatheredAs
  goes_call c h q p text waiting e g = absurd (waiting_sits h.gathered.stage g.0 q)
  goes_call c h q p text (sits o at cs) e g =
      subst (GatheringAs source text (sits o at (cs ++ (record { call = c; line = n } ∷ [])))) (sym p)
      (called_by source text o at n s c cs h g e)
  goes_call c h q p text ended e g = absurd (ended_sits h.gathered.stage g.0 q)

  pub goes_call_early :
      (c : WrittenCall) (h h' : Gathering) → (h.gathered.stage ≡ Sits → ⊥) → GatheredNone Ended h'.gathered →
      GoesOn source n s (line.Call c) h h'
  unfolding GoesOn GatheredAs
  goes_call_early c h h' early q text waiting e g = q
  goes_call_early c h h' early q text (sits o₂ at cs) e g = absurd (early g.stage)
  goes_call_early c h h' early q text ended e g = q
