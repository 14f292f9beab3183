-- Where each part of the inputs in force comes from: the last standing change of it, or the open.
-- And what became of each draft. Over a run's entries; a call's place is how many calls stand before
-- it. Assumes nothing.
use Rattle.std.specs.Prelude.{ℕ, suc, Bool, false, cond, not, ◌&&◌, List, [], ◌∷◌, ◌++◌, eqb, length, Option, Some}
use Rattle.worksheet.specs.declared.inputs.Edit.{Edit}
use Rattle.worksheet.specs.declared.inputs.Edit.TheVariants.{Sunspot, Hour, Path, Psc, Pole, Month, Model}
use Rattle.worksheet.specs.declared.desks.Worksheet.{Worksheet}
use Rattle.worksheet.specs.Journal.{Role, beginning, ending, settling, belonging, returning, showing, Entry, role_in, good, begins, belongs}
use Rattle.worksheet.specs.InForce.{edits_in, AcceptedCommit, commits_in_force}
use Rattle.auditing.specs.declared.marks.Origin.{Origin}
use Rattle.auditing.specs.declared.marks.Origin.TheVariants.{Opened, Set}
use Rattle.auditing.specs.declared.marks.Fate.{Fate}
use Rattle.auditing.specs.declared.marks.Fate.TheVariants.{Stands, TakenBack, Cancelled, Never}

-- ---- the parts of the inputs: each change is of one of them, with all its fields

-- 1 month, 2 sunspot number, 3 hour, 4 path (fields 4 to 8), 5 factors (9 to 12), 6 pole (13 and
-- 14), 7 model (field 15)
abbrev pub edit_part : Edit → ℕ
edit_part (Month m) = 1
edit_part (Sunspot x) = 2
edit_part (Hour x) = 3
edit_part (Path p) = 4
edit_part (Psc p) = 5
edit_part (Pole p) = 6
edit_part (Model m) = 7

-- ---- the standing changes

-- a change of a draft of this desk, its place, and the place of the commit that settled it
pub record StandingChange : Type 0 where
  pub edit : Edit
  pub desk : ℕ
  pub place : ℕ
  pub settled : ℕ

unfoldable pub standing_in : ℕ → ℕ → ℕ → List Edit → List StandingChange
standing_in desk place settled [] = []
standing_in desk place settled (e ∷ es) =
    record { edit = e; desk = desk; place = place; settled = settled } ∷ standing_in desk place settled es

-- the own changes of a commit of desk n at the place `settled`, in their order; `past` holds the
-- entries before, the latest first (as `own` of worksheet/specs/Journal.antt)
unfoldable pub own_changes : ℕ → ℕ → List Entry → List StandingChange
own_changes settled n [] = []
own_changes settled n (x ∷ past) =
    cond (begins n x) []
    (cond (belongs n x) (own_changes settled n past ++ standing_in n (length past) settled (edits_in (role_in x)))
    (own_changes settled n past))

-- those of some commits, which stand the latest first, in the order of the commits (as `changes_by`
-- of worksheet/specs/InForce.antt)
unfoldable pub standing_by : List AcceptedCommit → List StandingChange
standing_by [] = []
standing_by (c ∷ before) = standing_by before ++ own_changes (length c.past) c.desk c.past

-- THE STANDING CHANGES after some entries: those of the commits in force
abbrev pub standing : Worksheet → List Entry → List StandingChange
standing w entries = standing_by (commits_in_force w entries)

-- ---- where a part comes from

-- the last of some changes that is of this part, as a list of one; none where there is none
unfoldable pub last_of : ℕ → List StandingChange → List StandingChange → List StandingChange
last_of part o [] = o
last_of part o (x ∷ l) = last_of part (cond (eqb (edit_part x.edit) part) (x ∷ []) o) l

-- THE LAST STANDING CHANGE of a part of the inputs after some entries, if there is one
abbrev pub last_standing : ℕ → Worksheet → List Entry → List StandingChange
last_standing part w entries = last_of part [] (standing w entries)

-- and so its origin, by places
abbrev pub origin_in : List StandingChange → Origin
origin_in [] = Opened
origin_in (x ∷ l) = Set x.place x.settled

-- THE ORIGIN of a part of the inputs in force after some entries
abbrev pub origin_of : ℕ → Worksheet → List Entry → Origin
origin_of part w entries = origin_in (last_standing part w entries)

-- the changes that the origins name, part by part
unfoldable pub edits_named : List StandingChange → List Edit
edits_named [] = []
edits_named (x ∷ l) = x.edit ∷ edits_named l

unfoldable pub named_changes : Worksheet → List Entry → List Edit
named_changes w entries =
    let named : ℕ → List Edit = λ part. edits_named (last_standing part w entries) in
    named 1 ++ (named 2 ++ (named 3 ++ (named 4 ++ (named 5 ++ (named 6 ++ named 7)))))

-- ---- what became of a draft, by the entries after its begin in their order, of which the first has
-- the place `at`

-- of a draft that was committed: the first accepted commit or take-back after it decides (as
-- `taken_back` of worksheet/specs/InForce.antt)
abbrev pub settled_by : ℕ → ℕ → Role → Bool → Fate → Fate
settled_by commit at (beginning n) good rest = rest
settled_by commit at (ending n) good rest = rest
settled_by commit at (settling n) good rest = cond good (Stands commit) rest
settled_by commit at (belonging n even es) good rest = rest
settled_by commit at returning good rest = cond good (TakenBack commit at) rest
settled_by commit at showing good rest = rest

unfoldable pub fate_settled : ℕ → ℕ → List Entry → Fate
fate_settled commit at [] = Stands commit
fate_settled commit at (x ∷ later) = settled_by commit at (role_in x) (good x) (fate_settled commit (suc at) later)

-- of a draft of desk n that is open: its accepted cancel or commit decides
abbrev pub open_by : ℕ → ℕ → Role → Bool → Fate → Fate → Fate
open_by n at (beginning m) good settled rest = rest
open_by n at (ending m) good settled rest = cond (eqb m n && good) (Cancelled at) rest
open_by n at (settling m) good settled rest = cond (eqb m n && good) settled rest
open_by n at (belonging m even es) good settled rest = rest
open_by n at returning good settled rest = rest
open_by n at showing good settled rest = rest

-- THE FATE of a draft of desk n
unfoldable pub fate_of : ℕ → ℕ → List Entry → Fate
fate_of n at [] = Never
fate_of n at (x ∷ later) =
    open_by n at (role_in x) (good x) (fate_settled at (suc at) later) (fate_of n (suc at) later)

-- it ends desk n's draft: its cancel or its commit, accepted
abbrev pub is_ending : ℕ → Role → Bool → Bool
is_ending n (beginning m) good = false
is_ending n (ending m) good = eqb m n && good
is_ending n (settling m) good = eqb m n && good
is_ending n (belonging m even es) good = false
is_ending n returning good = false
is_ending n showing good = false

abbrev pub ends_draft : ℕ → Entry → Bool
ends_draft n x = is_ending n (role_in x) (good x)

-- a commit of desk n, refused
abbrev pub is_refusing : ℕ → Role → Bool → Bool
is_refusing n (beginning m) good = false
is_refusing n (ending m) good = false
is_refusing n (settling m) good = eqb m n && not good
is_refusing n (belonging m even es) good = false
is_refusing n returning good = false
is_refusing n showing good = false

-- THE LAST REFUSED COMMIT of a draft of desk n, while it was open; `last` where there is none
unfoldable pub refused_of : ℕ → Option ℕ → ℕ → List Entry → Option ℕ
refused_of n last at [] = last
refused_of n last at (x ∷ later) =
    cond (ends_draft n x) last (refused_of n (cond (is_refusing n (role_in x) (good x)) (Some at) last) (suc at) later)
