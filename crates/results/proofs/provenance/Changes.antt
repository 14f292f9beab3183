-- The standing changes are those of the commits in force, and the last of each part make the inputs
-- in force: own calls and own changes of a commit are looked for alike. Assumes nothing.
use Rattle.std.proofs.Common.{Ok, ℕ, Bool, true, false, cond, List, [], ◌∷◌, ◌++◌, append_assoc, append-nil, ◌≡◌, refl, sym, ap, ap₂, ◌∙◌, length}
use mathlib.Core.Bool.{false≢true}
use Rattle.maps.specs.declared.inputs.Inputs.{Inputs}
use Rattle.worksheet.specs.declared.inputs.Edit.{Edit}
use Rattle.worksheet.specs.declared.desks.Worksheet.{Worksheet}
use Rattle.worksheet.specs.Desks.{open_of, fresh_sheet, set_of}
use Rattle.worksheet.specs.Showing.{Source}
use Rattle.worksheet.specs.Journal.{Call, Role, beginning, ending, settling, belonging, returning, showing, Entry, role_in, good, run, is_begin, begins, belongs, own}
use Rattle.worksheet.specs.InForce.{edits_in, edits_of, changed, AcceptedCommit, changes_by, commits_in_force, in_force, taken_back, start_left}
use Rattle.worksheet.proofs.drafts.Drafts.{at_rest}
use Rattle.auditing.specs.Provenance.{StandingChange, standing_in, own_changes, standing_by, standing, edits_named, named_changes}
use Rattle.results.proofs.force.Lasting.{same_start, commits_exactly, in_force_exactly}
use Rattle.results.proofs.provenance.Parts.{last_make}

-- ---- the changes named, one after the other

named_append : (l m : List StandingChange) → edits_named (l ++ m) ≡ edits_named l ++ edits_named m
unfolding edits_named
named_append [] m = refl
named_append (x ∷ l) m = ap (λ (k : List Edit). x.edit ∷ k) (named_append l m)

named_in : (n place settled : ℕ) (es : List Edit) → edits_named (standing_in n place settled es) ≡ es
unfolding edits_named standing_in
named_in n place settled [] = refl
named_in n place settled (e ∷ es) = ap (λ (k : List Edit). e ∷ k) (named_in n place settled es)

edits_more : (l : List Entry) (x : Entry) → edits_of (l ++ (x ∷ [])) ≡ edits_of l ++ edits_in (role_in x)
unfolding edits_of
edits_more [] x = append-nil (edits_in (role_in x))
edits_more (y ∷ l) x =
    ap (λ (k : List Edit). edits_in (role_in y) ++ k) (edits_more l x)
    ∙ sym (append_assoc (edits_in (role_in y)) (edits_of l) (edits_in (role_in x)))

-- a begin makes no change
begin_no_change : (n : ℕ) (r : Role) (b : Bool) → is_begin n r b ≡ true → edits_in r ≡ []
begin_no_change n (beginning m) b h = refl
begin_no_change n (ending m) b h = refl
begin_no_change n (settling m) b h = refl
begin_no_change n (belonging m even es) b h = absurd (false≢true h)
begin_no_change n returning b h = refl
begin_no_change n showing b h = refl

own_named : (settled n : ℕ) (past : List Entry) → edits_named (own_changes settled n past) ≡ edits_of (own n past)
unfolding own_changes own edits_of edits_named
own_named settled n [] = refl
own_named settled n (x ∷ past) = go (begins n x) (belongs n x) refl (own_named settled n past)
  where
    mine : List StandingChange
    mine = own_changes settled n past

    new : List StandingChange
    new = standing_in n (length past) settled (edits_in (role_in x))

    go : (b o : Bool) → begins n x ≡ b → edits_named mine ≡ edits_of (own n past)
        → edits_named (cond b [] (cond o (mine ++ new) mine)) ≡ edits_of (cond b (x ∷ []) (cond o (own n past ++ (x ∷ [])) (own n past)))
    go true o p h = sym (append-nil (edits_in (role_in x)) ∙ begin_no_change n (role_in x) (good x) p)
    go false true p h =
        named_append mine new
        ∙ ap₂ ◌++◌ h (named_in n (length past) settled (edits_in (role_in x)))
        ∙ sym (edits_more (own n past) x)
    go false false p h = h

by_commits : (l : List AcceptedCommit) → edits_named (standing_by l) ≡ changes_by l
unfolding standing_by changes_by edits_named
by_commits [] = refl
by_commits (c ∷ before) =
    named_append (standing_by before) (own_changes (length c.past) c.desk c.past)
    ∙ ap₂ ◌++◌ (by_commits before) (own_named (length c.past) c.desk c.past)

-- THE STANDING CHANGES are those of the commits in force
pub standing_changes : (w : Worksheet) (entries : List Entry) → edits_named (standing w entries) ≡ changes_by (commits_in_force w entries)
standing_changes w entries = by_commits (commits_in_force w entries)

-- they make the inputs in force
standing_make_lent : (source : Source) (w : Worksheet) → at_rest w ≡ w → (cs : List Call)
    → let entries = (run source cs w).entries in
    in_force w entries ≡ changed (start_left w entries) (edits_named (standing w entries))
standing_make_lent source w rest cs =
    let entries = (run source cs w).entries in
    in_force_exactly source w rest cs
    ∙ ap (λ (l : List AcceptedCommit). changed (start_left w entries) (changes_by l)) (sym (commits_exactly source w rest cs))
    ∙ ap (changed (start_left w entries)) (sym (standing_changes w entries))

pub standing_make : (source : Source) (opened : Inputs) (cs : List Call)
    → let w = (open_of opened).sheet in let entries = (run source cs w).entries in
    in_force w entries ≡ changed opened (edits_named (standing w entries))
unfolding open_of fresh_sheet set_of
standing_make source opened cs =
    let w = (open_of opened).sheet in
    let entries = (run source cs w).entries in
    standing_make_lent source w refl cs
    ∙ ap (λ (i : Inputs). changed i (edits_named (standing w entries))) (same_start (taken_back entries) opened)

-- THE CHANGES NAMED make them too
pub named_make_lent : (source : Source) (w : Worksheet) → at_rest w ≡ w → (cs : List Call)
    → let entries = (run source cs w).entries in
    in_force w entries ≡ changed (start_left w entries) (named_changes w entries)
unfolding named_changes
named_make_lent source w rest cs =
    let entries = (run source cs w).entries in
    standing_make_lent source w rest cs ∙ last_make (start_left w entries) (standing w entries)

pub named_make : (source : Source) (opened : Inputs) → (open_of opened).answer ≡ Ok tt → (cs : List Call)
    → let w = (open_of opened).sheet in let entries = (run source cs w).entries in
    in_force w entries ≡ changed opened (named_changes w entries)
unfolding named_changes
named_make source opened given cs =
    let w = (open_of opened).sheet in
    standing_make source opened cs ∙ last_make opened (standing w (run source cs w).entries)
