-- The origin of each part, looked for backwards through the marks, is that of the last standing
-- change: the commits in force and their own changes, read backwards too, go entry by entry like the
-- marks. Assumes nothing.
use Rattle.std.proofs.Common.{ℕ, ◌≤◌, Bool, true, false, cond, not, ◌&&◌, List, [], ◌∷◌, ◌++◌, reverse, append_assoc, append-nil, ◌≡◌, refl, sym, ap, ◌∙◌, arith, eqb, lit≤, length, ne_eqb}
use mathlib.Core.Bool.{and-false}
use mathlib.Core.List.{reverse_aux}
use lib.ListN.{length-reverse}
use Rattle.worksheet.specs.declared.inputs.Edit.{Edit}
use Rattle.worksheet.specs.declared.desks.Worksheet.{Worksheet}
use Rattle.worksheet.specs.Showing.{Source}
use Rattle.worksheet.specs.Journal.{Call, begin, commit, cancel, change, take_back, show, Role, beginning, ending, settling, belonging, returning, showing, role_of, Entry, role_in, good, run, is_own, begins}
use Rattle.worksheet.specs.InForce.{edits_in, AcceptedCommit, taken_back_by, taken_back, left_by, commits_left}
use Rattle.auditing.specs.declared.marks.Origin.{Origin}
use Rattle.auditing.specs.declared.marks.Origin.TheVariants.{Set}
use Rattle.auditing.specs.Provenance.{edit_part, StandingChange, standing_in, own_changes, standing_by, last_of, origin_in, origin_of}
use Rattle.auditing.specs.Marks.{sort_of, desk_of, marks_of, mark_desk, is_done, is_done_by, change_before, origin_before}
use Rattle.worksheet.proofs.drafts.Drafts.{at_rest}
use Rattle.results.proofs.force.Lasting.{commits_exactly}
use Rattle.results.proofs.provenance.Marking.{done_by_of, begins_mark, by_move, moves_mark, Reads, reads_all}

-- ---- the last of some changes

last_append : (part : ℕ) (o l m : List StandingChange) → last_of part o (l ++ m) ≡ last_of part (last_of part o l) m
unfolding last_of
last_append part o [] m = refl
last_append part o (x ∷ l) m = last_append part (cond (eqb (edit_part x.edit) part) (x ∷ []) o) l m

-- ---- the commits left, read backwards; u says whether what comes next takes back

left_back : Bool → List Entry → List AcceptedCommit
left_back u [] = []
left_back u (x ∷ past) = left_by past x (role_in x) (good x) u ++ left_back (taken_back_by (role_in x) (good x) u) past

left_all : (later past : List Entry) → left_back false (reverse_aux later past) ≡ commits_left past later ++ left_back (taken_back later) past
unfolding left_back taken_back commits_left
left_all [] past = refl
left_all (x ∷ later) past =
    left_all later (x ∷ past)
    ∙ sym (append_assoc (commits_left (x ∷ past) later) (left_by past x (role_in x) (good x) (taken_back later)) _)

left_run : (entries : List Entry) → left_back false (reverse entries) ≡ commits_left [] entries
unfolding left_back
left_run entries = left_all entries [] ∙ append-nil (commits_left [] entries)

-- ---- the own changes of a commit

module _ (part : ℕ) (high : part ≤ 7) (n settled : ℕ) where
  -- the change at place j was made by desk n, or none was
  abbrev set_by : Call → Bool → ℕ → Origin → Origin
  set_by c b j rest = cond ((eqb (sort_of c) part && b) && eqb (desk_of c) n) (Set j settled) rest

  no_change : (sort d j : ℕ) (b : Bool) (rest : Origin) → 8 ≤ sort → cond ((eqb sort part && b) && eqb d n) (Set j settled) rest ≡ rest
  no_change sort d j b rest h =
      ap (λ (z : Bool). cond ((z && b) && eqb d n) (Set j settled) rest) (ne_eqb sort part (λ p. omega arith))

  module _ (o own : List StandingChange) (j : ℕ) where
    abbrev with : Role → Bool → List StandingChange
    with r b = cond (is_own n r b) (own ++ standing_in n j settled (edits_in r)) own

    nothing_more : (t : Bool) → origin_in (last_of part o (cond t (own ++ standing_in n j settled []) own)) ≡ origin_in (last_of part o own)
    unfolding standing_in
    nothing_more true = ap (λ (l : List StandingChange). origin_in (last_of part o l)) (append-nil own)
    nothing_more false = refl

    abbrev made : Edit → StandingChange
    made e = record { edit = e; desk = n; place = j; settled = settled }

    -- one change more, which is of this part or not
    one_more : (e : Edit) (t b : Bool)
        → cond ((eqb (edit_part e) part && b) && t) (Set j settled) (origin_in (last_of part o own))
        ≡ origin_in (last_of part o (cond (t && b) (own ++ standing_in n j settled (e ∷ [])) own))
    unfolding standing_in last_of
    one_more e true true = of (eqb (edit_part e) part) ∙ sym (ap origin_in (last_append part o own (made e ∷ [])))
      where
        of : (p : Bool) → cond ((p && true) && true) (Set j settled) (origin_in (last_of part o own)) ≡ origin_in (cond p (made e ∷ []) (last_of part o own))
        of true = refl
        of false = refl
    one_more e true false = ap (λ (z : Bool). cond (z && true) (Set j settled) (origin_in (last_of part o own))) (and-false (eqb (edit_part e) part))
    one_more e false b = ap (λ (z : Bool). cond z (Set j settled) (origin_in (last_of part o own))) (and-false (eqb (edit_part e) part && b))

    show_more : (m : ℕ) (b t : Bool) → origin_in (last_of part o (with (cond t showing (belonging m true [])) b)) ≡ origin_in (last_of part o own)
    show_more m b true = refl
    show_more m b false = nothing_more (eqb m n && true)

    change_test : (c : Call) (b : Bool) → set_by c b j (origin_in (last_of part o own)) ≡ origin_in (last_of part o (with (role_of c) b))
    change_test (begin m) b = no_change 8 m j b _ (lit≤ tt)
    change_test (commit m) b = no_change 9 m j b _ (lit≤ tt)
    change_test (cancel m) b = no_change 10 m j b _ (lit≤ tt)
    change_test (change m e) b = one_more e (eqb m n) b
    change_test take_back b = no_change 11 0 j b _ (lit≤ tt)
    change_test (show m lent) b = no_change 12 m j b _ (lit≤ tt) ∙ sym (show_more m b (eqb m 0))

    begun_or_not : (t b : Bool) (c : Call)
        → cond t (origin_in o) (set_by c b j (origin_in (last_of part o own))) ≡ origin_in (last_of part o (cond t [] (with (role_of c) b)))
    unfolding last_of
    begun_or_not true b c = refl
    begun_or_not false b c = change_test c b

  own_origin : (entries past : List Entry) → Reads entries past → (o : List StandingChange)
      → change_before (marks_of entries) part n settled (origin_in o) (length past) ≡ origin_in (last_of part o (own_changes settled n past))
  unfolding change_before own_changes last_of
  own_origin entries [] reads o = refl
  own_origin entries (x ∷ past) reads o =
      let j = length past in
      let rest = change_before (marks_of entries) part n settled (origin_in o) j in
      (λ i. let m = reads.0 i in cond (is_done_by 8 n m) (origin_in o) (cond (is_done_by part n m) (Set j settled) rest))
      ∙ (λ i. cond (begins_mark n x i) (origin_in o) (cond (done_by_of x part n i) (Set j settled) (own_origin entries past reads.2 o i)))
      ∙ begun_or_not o (own_changes settled n past) j (begins n x) (good x) x.call

-- ---- the origin

module _ (part : ℕ) (high : part ≤ 7) (entries : List Entry) where
  abbrev origin_left : List AcceptedCommit → Origin
  origin_left l = origin_in (last_of part [] (standing_by l))

  -- what the marks of `past` tell
  abbrev Told : List Entry → Type 0
  Told past = (u : Bool) → origin_before (marks_of entries) part u (length past) ≡ origin_left (left_back u past)

  module _ (past : List Entry) (x : Entry) (reads : Reads entries past) (below : Told past) where
    abbrev looked : Bool → Origin
    looked u = origin_before (marks_of entries) part u (length past)

    -- where a commit of desk n was found
    abbrev commit_found : Bool → ℕ → Origin
    commit_found u n = cond u (looked false) (change_before (marks_of entries) part n (length past) (looked false) (length past))

    settles : (n : ℕ) (u : Bool) → commit_found u n
        ≡ origin_left (cond (not u) (record { desk = n; past = past; entry = x } ∷ []) [] ++ left_back false past)
    unfolding standing_by
    settles n true = below false
    settles n false =
        let before = standing_by (left_back false past) in
        ap (λ (z : Origin). change_before (marks_of entries) part n (length past) z (length past)) (below false)
        ∙ own_origin part high n (length past) entries past reads (last_of part [] before)
        ∙ sym (ap origin_in (last_append part [] before (own_changes (length past) n past)))

    turn : (u : Bool) (r : Role) (b : Bool) → by_move (looked true) (commit_found u) (looked u) r b
        ≡ origin_left (left_by past x r b u ++ left_back (taken_back_by r b u) past)
    turn u (beginning n) b = below u
    turn u (ending n) b = below u
    turn u (settling n) true = settles n u
    turn u (settling n) false = below u
    turn u (belonging n even es) b = below u
    turn u returning true = below true
    turn u returning false = below u
    turn u showing b = below u

  origin_back : (past : List Entry) → Reads entries past → Told past
  unfolding origin_before left_back standing_by last_of
  origin_back [] reads u = refl
  origin_back (x ∷ past) reads u =
      let below = origin_back past reads.2 in
      let found : Bool → Origin = looked past x reads.2 below in
      let settled : ℕ → Origin = commit_found past x reads.2 below u in
      (λ i. let m = reads.0 i in cond (is_done 11 m) (found true) (cond (is_done 9 m) (settled (mark_desk m)) (found u)))
      ∙ moves_mark (found true) settled (found u) x
      ∙ turn past x reads.2 below u (role_in x) (good x)

-- THE ORIGIN of a part, by the marks of a run
pub origin_by_marks : (source : Source) (w : Worksheet) → at_rest w ≡ w → (cs : List Call) (part : ℕ) → part ≤ 7
    → let entries = (run source cs w).entries in
    origin_before (marks_of entries) part false (length entries) ≡ origin_of part w entries
origin_by_marks source w rest cs part high =
    let entries = (run source cs w).entries in
    ap (origin_before (marks_of entries) part false) (sym (length-reverse entries))
    ∙ origin_back part high entries (reverse entries) (reads_all entries) false
    ∙ ap (λ (l : List AcceptedCommit). origin_in (last_of part [] (standing_by l))) (left_run entries ∙ sym (commits_exactly source w rest cs))
