-- Document 01, Demand 3: calls and their answers, the run of a list of calls, the shorter list, and
-- the claim about both runs. Assumes nothing.
use Rattle.base.specs.declared.refusal.Refusal.{Refusal}
use Rattle.std.specs.Prelude.{ℕ, Bool, true, false, cond, not, ◌&&◌, ◌||◌, ◌⊎◌, ◌≡◌, eqb, Float, Err, Ok, Result, List, [], ◌∷◌, ◌++◌, reverse}
use mathlib.Core.List.{Memᴰ}
use Rattle.base.specs.Refusal.{Verdict}
use Rattle.worksheet.specs.declared.inputs.Edit.{Edit}
use Rattle.worksheet.specs.declared.desks.Worksheet.{Worksheet}
use Rattle.worksheet.specs.declared.desks.Outcome.{Outcome}
use Rattle.worksheet.specs.Desks.{begin_of, change_of, commit_of, cancel_of, take_back_of}
use Rattle.worksheet.specs.Showing.{Source, show_of, show_buffer}

-- ---- calls and answers

-- 'begins, changes, commits, cancels, take-backs and showings', each with its arguments other than
-- the worksheet and the files; a showing with the buffer lent to it
pub data Call : Type 0 where
  begin commit cancel : (desk : ℕ) → Call
  change : (desk : ℕ) → Edit → Call
  take_back : Call
  show : (desk : ℕ) → (lent : List Float) → Call

-- of a showing 'the number of points or the refusal's number and place, and either way the buffer
-- afterwards'; of another call 'that it was accepted, or the refusal's number and place'. A
-- refusal's case stands for its number and place (`report_of`)
pub data Answer : Type 0 where
  told : Verdict → Answer
  shown : Result ℕ Refusal → (after : List Float) → Answer

-- a call with the answer that it got
pub record Entry : Type 0 where
  pub call : Call
  pub answer : Answer

-- 'Accepted means not refused'
abbrev pub accepted : Answer → Bool
accepted (told (Ok _)) = true
accepted (told (Err why)) = false
accepted (shown (Ok count) after) = true
accepted (shown (Err why) after) = false

-- ---- the run of a list of calls, with one source of files lent throughout

pub record Step : Type 0 where
  pub answer : Answer
  pub sheet : Worksheet

pub record Run : Type 0 where
  pub entries : List Entry
  pub sheet : Worksheet

abbrev pub step_of : Outcome → Step
step_of o = record { answer = told o.answer; sheet = o.sheet }

module _ (source : Source) where
  -- what each call answers, and the worksheet that it leaves
  unfoldable pub step : Call → Worksheet → Step
  step (begin n) w = step_of (begin_of n w)
  step (change n e) w = step_of (change_of n e w)
  step (commit n) w = step_of (commit_of n w)
  step (cancel n) w = step_of (cancel_of n w)
  step take_back w = step_of (take_back_of w)
  step (show n lent) w = record { answer = shown (show_of source n lent w) (show_buffer source n lent w); sheet = w }

  -- the call c on w with its answer
  abbrev pub entry_of : Call → Worksheet → Entry
  entry_of c w = record { call = c; answer = (step c w).answer }

  -- 'Each call gets the worksheet that the one before it left'
  unfoldable pub run : List Call → Worksheet → Run
  run [] w = record { entries = []; sheet = w }
  run (c ∷ cs) w =
      let r = run cs (step c w).sheet in
      record { entries = entry_of c w ∷ r.entries; sheet = r.sheet }

-- ---- what a call is in a list

pub data Role : Type 0 where
  -- accepted, it begins the draft of a desk; ends it; settles it
  beginning ending settling : (desk : ℕ) → Role
  -- it belongs to a desk's draft if it is accepted, or even if it is refused, and makes these
  -- changes to it
  belonging : (desk : ℕ) → (even_refused : Bool) → List Edit → Role
  -- accepted, it takes the last settling back
  returning : Role
  -- it shows the worksheet
  showing : Role

-- THE TABLE: all that lists know of a call
abbrev pub role_of : Call → Role
role_of (begin n) = beginning n
-- 'its own changes are that desk's accepted ones'
role_of (change n e) = belonging n false (e ∷ [])
-- 'its own showings all of that desk's there, refused ones too'; 'The worksheet's showings are
-- those that ask for 0'
role_of (show n lent) = cond (eqb n 0) showing (belonging n true [])
role_of (commit n) = settling n
role_of (cancel n) = ending n
role_of take_back = returning

-- ---- the shorter list. `past` holds the entries before the one looked at, the latest first;
-- `good` says whether the call was accepted

-- 'accepted begin of its desk': of desk n
abbrev pub is_begin : ℕ → Role → Bool → Bool
is_begin n (beginning m) good = eqb m n && good
is_begin n (ending m) good = false
is_begin n (settling m) good = false
is_begin n (belonging m even es) good = false
is_begin n returning good = false
is_begin n showing good = false

-- desk n's accepted changes, and its showings, 'refused ones too'
abbrev pub is_own : ℕ → Role → Bool → Bool
is_own n (beginning m) good = false
is_own n (ending m) good = false
is_own n (settling m) good = false
is_own n (belonging m even es) good = eqb m n && (even || good)
is_own n returning good = false
is_own n showing good = false

abbrev pub role_in : Entry → Role
role_in x = role_of x.call

abbrev pub good : Entry → Bool
good x = accepted x.answer

abbrev pub begins : ℕ → Entry → Bool
begins n x = is_begin n (role_in x) (good x)

abbrev pub belongs : ℕ → Entry → Bool
belongs n x = is_own n (role_in x) (good x)

-- the own calls of a commit of desk n: 'the last accepted begin of its desk before it', and that
-- desk's 'accepted changes' and showings 'between the two', 'all in their order' (an accepted
-- commit of a run from closed desks has such a begin: `undisturbed_draft`)
unfoldable pub own : ℕ → List Entry → List Entry
own n [] = []
own n (x ∷ past) = cond (begins n x) (x ∷ []) (cond (belongs n x) (own n past ++ (x ∷ [])) (own n past))

-- what the shorter list has for the entry x, by its role
unfoldable pub kept_for : List Entry → Role → Entry → List Entry
-- an accepted commit 'with its own begin, accepted changes and showings moved up just before it'
kept_for past (settling n) x = cond (good x) (own n past ++ (x ∷ [])) []
-- an accepted take-back
kept_for past returning x = cond (good x) (x ∷ []) []
-- 'The worksheet's showings .., refused ones too'
kept_for past showing x = x ∷ []
-- 'All other calls are dropped'
kept_for past (beginning n) x = []
kept_for past (ending n) x = []
kept_for past (belonging n even es) x = []

unfoldable pub shorter : List Entry → List Entry → List Entry
shorter past [] = []
shorter past (x ∷ later) = kept_for past (role_in x) x ++ shorter (x ∷ past) later

unfoldable pub calls_of : List Entry → List Call
calls_of [] = []
calls_of (x ∷ l) = x.call ∷ calls_of l

-- ---- to say what a list holds

-- the entries that pass a test, in their order
unfoldable pub keep : (Entry → Bool) → List Entry → List Entry
keep p [] = []
keep p (x ∷ l) = cond (p x) (x ∷ keep p l) (keep p l)

-- no entry passes the test
unfoldable pub none : (Entry → Bool) → List Entry → Bool
none p [] = true
none p (x ∷ l) = not (p x) && none p l

-- 'the accepted commits and take-backs and the worksheet's showings'
abbrev pub is_kept_by_itself : Role → Bool → Bool
is_kept_by_itself (beginning n) good = false
is_kept_by_itself (ending n) good = false
is_kept_by_itself (settling n) good = good
is_kept_by_itself (belonging n even es) good = false
is_kept_by_itself returning good = good
is_kept_by_itself showing good = true

abbrev pub kept_by_itself : Entry → Bool
kept_by_itself x = is_kept_by_itself (role_in x) (good x)

-- y is an own call of an accepted commit of the full list, and stands before it there
pub record OwnCall (full : List Entry) (y : Entry) : Type 0 where
  pub desk : ℕ
  pub before : List Entry
  pub its_commit : Entry
  pub after : List Entry
  pub split : full ≡ before ++ (its_commit ∷ after)
  pub is_commit : role_in its_commit ≡ settling desk
  pub committed : accepted its_commit.answer ≡ true
  pub is_own_law : Memᴰ y (own desk (reverse before))
  pub stands_before : Memᴰ y before
  pub begins_or_belongs : (begins desk y ≡ true) ⊎ (belongs desk y ≡ true)

-- ---- demand 3

module _ (source : Source) where
  -- the calls kept of the list cs, each with its answer in the full list
  unfoldable pub kept_of : Worksheet → List Call → List Entry
  kept_of w cs = shorter [] (run source cs w).entries

  unfoldable pub short_run : Worksheet → List Call → Run
  short_run w cs = run source (calls_of (kept_of w cs)) w

  -- DEMAND 3 of the worksheet w and the list cs
  pub record Demand3 (w : Worksheet) (cs : List Call) : Type 0 where
    -- 'every call kept answers alike in both, each showing's whole figures included'
    pub answers : (short_run w cs).entries ≡ kept_of w cs
    -- 'and after both the inputs and the earlier set are equal'
    pub inputs : (short_run w cs).sheet.inputs ≡ (run source cs w).sheet.inputs
    pub earlier : (short_run w cs).sheet.earlier ≡ (run source cs w).sheet.earlier
