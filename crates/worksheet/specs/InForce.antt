-- The inputs in force: a fold over a run's entries, from the worksheet at its start; no draft is
-- looked at. For the insurer's line. Assumes nothing.
use Rattle.std.specs.Prelude.{ℕ, Bool, true, false, cond, not, ◌&&◌, ◌≡◌, eqb, Float, None, Ok, Option, Some, List, [], ◌∷◌, ◌++◌, reverse}
use mathlib.Core.List.{Memᴰ}
use Rattle.base.specs.Files.{files_check}
use Rattle.maps.specs.declared.inputs.Inputs.{Inputs}
use Rattle.maps.specs.Figures.{sheet_path, figures_of}
use Rattle.worksheet.specs.declared.inputs.Edit.{Edit}
use Rattle.worksheet.specs.declared.desks.Worksheet.{Worksheet}
use Rattle.worksheet.specs.Inputs.{edited}
use Rattle.worksheet.specs.Desks.{set_of}
use Rattle.worksheet.specs.Showing.{Source}
use Rattle.worksheet.specs.Journal.{begin, commit, change, Role, beginning, ending, settling, belonging, returning, showing, Entry, role_in, good, begins, belongs, own, keep, none}

-- ---- the changes of a commit

abbrev pub edits_in : Role → List Edit
edits_in (beginning n) = []
edits_in (ending n) = []
edits_in (settling n) = []
edits_in (belonging n even es) = es
edits_in returning = []
edits_in showing = []

-- the changes among some entries, in their order
unfoldable pub edits_of : List Entry → List Edit
edits_of [] = []
edits_of (x ∷ l) = edits_in (role_in x) ++ edits_of l

-- the inputs with the changes made one after the other
unfoldable pub changed : Inputs → List Edit → Inputs
changed i [] = i
changed i (e ∷ l) = changed (edited e i) l

-- ---- sets of inputs. Here commits and entries stand the latest first

-- an accepted commit: its desk, the entries before it, and its entry
pub record AcceptedCommit : Type 0 where
  pub desk : ℕ
  pub past : List Entry
  pub entry : Entry

-- inputs that stood at the start, and the commits that led from them to this set
pub record Standing : Type 0 where
  pub start : Inputs
  pub commits : List AcceptedCommit

-- the accepted changes of the commits' drafts, in the order of the commits
unfoldable pub changes_by : List AcceptedCommit → List Edit
changes_by [] = []
changes_by (c ∷ before) = changes_by before ++ edits_of (own c.desk c.past)

-- the set itself
unfoldable pub inputs_by : Standing → Inputs
inputs_by s = changed s.start (changes_by s.commits)

-- ---- THE FOLD

-- the set in force, and before it the one that a take-back returns, if there is one
pub record Force : Type 0 where
  pub present : Standing
  pub before : List Standing

abbrev pub standing_at : Inputs → Standing
standing_at i = record { start = i; commits = [] }

abbrev pub standing_before : Option Inputs → List Standing
standing_before None = []
standing_before (Some i) = standing_at i ∷ []

-- at the start: the worksheet's inputs and its earlier set
abbrev pub force_in : Worksheet → Force
force_in w = record { present = standing_at w.inputs; before = standing_before w.earlier }

-- 'the inputs become the earlier set, the draft's become the inputs'
abbrev pub pushed : AcceptedCommit → Force → Force
pushed c f =
    record {
      present = record { start = f.present.start; commits = c ∷ f.present.commits };
      before = f.present ∷ [];
    }

-- 'The earlier set returns, none is left'
abbrev pub returned_to : List Standing → Force → Force
returned_to [] f = f
returned_to (s ∷ l) f = record { present = s; before = [] }

-- an accepted commit pushes its set, an accepted take-back returns the one before; nothing else
-- counts
abbrev pub force_by : List Entry → Entry → Role → Bool → Force → Force
force_by past x (beginning n) good f = f
force_by past x (ending n) good f = f
force_by past x (settling n) good f = cond good (pushed (record { desk = n; past = past; entry = x }) f) f
force_by past x (belonging n even es) good f = f
force_by past x returning good f = cond good (returned_to f.before f) f
force_by past x showing good f = f

unfoldable pub force_after : Force → List Entry → Force
force_after f [] = f
force_after f (x ∷ past) = force_by past x (role_in x) (good x) (force_after f past)

-- the commits in force on the worksheet w, the latest first, after entries that stand in their
-- order
unfoldable pub commits_in_force : Worksheet → List Entry → List AcceptedCommit
commits_in_force w entries = (force_after (force_in w) (reverse entries)).present.commits

-- THE INPUTS IN FORCE after some entries: those at the start (the earlier set at the start, where
-- they were taken back), with the accepted changes of the drafts that were committed and not taken
-- back since, in the order of the commits
unfoldable pub in_force : Worksheet → List Entry → Inputs
in_force w entries = inputs_by (force_after (force_in w) (reverse entries)).present

-- ---- was it taken back?

-- of the entries after a commit, in their order, `rest` says it of those after the call
abbrev pub taken_back_by : Role → Bool → Bool → Bool
taken_back_by (beginning n) good rest = rest
taken_back_by (ending n) good rest = rest
taken_back_by (settling n) good rest = cond good false rest
taken_back_by (belonging n even es) good rest = rest
taken_back_by returning good rest = cond good true rest
taken_back_by showing good rest = rest

-- the commit before these entries was taken back: the first accepted commit or take-back among them
-- is a take-back
unfoldable pub taken_back : List Entry → Bool
taken_back [] = false
taken_back (x ∷ later) = taken_back_by (role_in x) (good x) (taken_back later)

-- ---- the same without the fold

-- the entry's commit, if it is an accepted one that was not taken back
abbrev pub left_by : List Entry → Entry → Role → Bool → Bool → List AcceptedCommit
left_by past x (beginning n) good taken = []
left_by past x (ending n) good taken = []
left_by past x (settling n) good taken = cond (good && not taken) (record { desk = n; past = past; entry = x } ∷ []) []
left_by past x (belonging n even es) good taken = []
left_by past x returning good taken = []
left_by past x showing good taken = []

-- of entries in their order, after those of `past` (the latest first): the accepted commits that
-- were not taken back, the latest first
unfoldable pub commits_left : List Entry → List Entry → List AcceptedCommit
commits_left past [] = []
commits_left past (x ∷ later) = commits_left (x ∷ past) later ++ left_by past x (role_in x) (good x) (taken_back later)

-- the inputs that those commits changed: the worksheet's own, or its earlier set, where the first
-- accepted commit or take-back of all is a take-back
abbrev pub start_left : Worksheet → List Entry → Inputs
start_left w entries = cond (taken_back entries) (set_of w.earlier w.inputs) w.inputs

-- ---- the insurer's line

module _ (source : Source) where
  -- a showing's number of points and its whole figures are those of one set of inputs and of the two
  -- files that the source gives them
  pub record FiguresOf (i : Inputs) (count : ℕ) (figures : List Float) : Type 0 where
    pub lent : (source i).verdict ≡ Ok tt
    -- the two have passed their checks
    pub checked : files_check (source i).f2 (source i).file ≡ Ok tt
    pub points : count ≡ (sheet_path i).count
    pub whole : figures ≡ figures_of (source i).f2 (source i).file i

-- ---- a commit's draft started from the inputs in force, and nothing came between

-- does the call move the worksheet's inputs, or begin or end desk n's draft?
abbrev pub is_disturbing : ℕ → Role → Bool → Bool
is_disturbing n (beginning m) good = eqb m n && good
is_disturbing n (ending m) good = eqb m n && good
is_disturbing n (settling m) good = good
is_disturbing n (belonging m even es) good = false
is_disturbing n returning good = good
is_disturbing n showing good = false

abbrev pub disturbs : ℕ → Entry → Bool
disturbs n x = is_disturbing n (role_in x) (good x)

-- of an accepted commit of desk n, `before` being the entries before it, in their order
pub record DraftUndisturbed (w : Worksheet) (n : ℕ) (before : List Entry) : Type 0 where
  pub front : List Entry
  pub own_begin : Entry
  pub between : List Entry
  pub split : before ≡ front ++ (own_begin ∷ between)
  pub begun : begins n own_begin ≡ true
  -- between its begin and the commit nobody committed or took back, and the draft was not cancelled
  -- or begun anew
  pub quiet : none (disturbs n) between ≡ true
  -- its own calls are its begin and what belongs to it between the two
  pub own_calls : own n (reverse before) ≡ own_begin ∷ keep (belongs n) between
  -- the inputs in force at the commit are those that its begin copied
  pub same_inputs : in_force w before ≡ in_force w front

-- ---- where a change in force comes from

-- the commit c stands among the entries, was accepted, and was not taken back
pub record CommitInForce (entries : List Entry) (c : AcceptedCommit) : Type 0 where
  pub after : List Entry
  pub split : entries ≡ reverse c.past ++ (c.entry ∷ after)
  pub is_commit : role_in c.entry ≡ settling c.desk
  pub committed : good c.entry ≡ true
  pub not_taken_back : taken_back after ≡ false

-- the change e was accepted, among the own calls of such a commit
pub record InForceBy (entries : List Entry) (e : Edit) : Type 0 where
  pub its_commit : AcceptedCommit
  pub in_force_law : CommitInForce entries its_commit
  pub its_change : Entry
  pub is_own_law : Memᴰ its_change (own its_commit.desk its_commit.past)
  pub is_change : Memᴰ e (edits_in (role_in its_change))
  pub belongs_to_it : belongs its_commit.desk its_change ≡ true
  pub accepted_too : good its_change ≡ true

-- 'from no edit that somebody had cancelled': of the change e, read down the entries
pub record NeverCancelled (entries : List Entry) (e : Edit) : Type 0 where
  pub desk : ℕ
  pub front : List Entry
  pub its_begin : Entry
  pub to_change : List Entry
  pub its_change : Entry
  pub to_commit : List Entry
  pub its_commit : Entry
  pub after : List Entry
  pub in_order : entries ≡ front ++ (its_begin ∷ (to_change ++ (its_change ∷ (to_commit ++ (its_commit ∷ after)))))
  -- an accepted begin of the desk
  pub is_begin_law : its_begin.call ≡ begin desk
  pub begun : good its_begin ≡ true
  -- nobody commits or takes back, and the draft is not cancelled or begun anew
  pub quiet_to_change : none (disturbs desk) to_change ≡ true
  -- this change of its draft, accepted
  pub is_change : its_change.call ≡ change desk e
  pub made : good its_change ≡ true
  pub quiet_to_commit : none (disturbs desk) to_commit ≡ true
  -- an accepted commit of the desk, which nobody took back
  pub is_commit : its_commit.call ≡ commit desk
  pub committed : good its_commit ≡ true
  pub not_taken_back : taken_back after ≡ false

-- ---- the insurer's sentence

module _ (source : Source) where
  -- of a showing after some entries, from the inputs `start` on: 'its layer heights, its critical
  -- frequencies and its ground all came from one sunspot number, one hour and one route, and from
  -- no edit that somebody had cancelled'
  pub record Insured (start : Inputs) (entries : List Entry) (count : ℕ) (figures : List Float) : Type 0 where
    pub edits : List Edit
    -- one set of inputs has all the figures
    pub one_set : FiguresOf source (changed start edits) count figures
    -- it has the changes of all accepted commits that were not taken back, commit by commit in
    -- their order, each commit once
    pub all_edits : edits ≡ changes_by (commits_left [] entries)
    -- and each of them was committed and never cancelled
    pub none_cancelled : (e : Edit) → Memᴰ e edits → NeverCancelled entries e
