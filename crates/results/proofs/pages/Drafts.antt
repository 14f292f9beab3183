-- The page's line of a draft: the fate and the last refused commit that the marks give are those of the
-- entries, and their places are calls', so that the lines named are theirs. Assumes nothing.
use Rattle.std.proofs.Common.{None, Option, Some, ℕ, suc, ◌+◌, ◌-◌, ◌%◌, ◌^◌, ◌<◌, ◌≤◌, Bool, true, false, cond, ◌&&◌, List, [], ◌∷◌, ◌++◌, ◌≡◌, refl, sym, ap, ap₂, ◌∙◌, arith, eqb, length, length-append, eqb-true, eq-eqb}
use mathlib.Core.Bool.{and-true}
use Rattle.base.proofs.verdicts.Picks.{cond_true, cond_false}
use Rattle.worksheet.specs.Journal.{Role, beginning, ending, settling, belonging, returning, showing, begin, Entry, role_in, good, begins}
use Rattle.worksheet.proofs.drafts.Effects.{both_true, begun}
use Rattle.listing.specs.declared.account.Became.TheVariants as became
use Rattle.listing.specs.Account.{draft_line}
use Rattle.auditing.specs.declared.marks.Fate.{Fate}
use Rattle.auditing.specs.declared.marks.Fate.TheVariants.{Stands, TakenBack, Cancelled, Never}
use Rattle.auditing.specs.Provenance.{settled_by, fate_settled, open_by, fate_of, ends_draft, is_refusing, refused_of}
use Rattle.auditing.specs.Marks.{mark_of, marks_of, mark_desk, mark_at, is_done, fate_from, refused_from}
use Rattle.auditing.specs.Gathered.{calls_told}
use Rattle.auditing.specs.Accounts.{number_at, desk_at, balked_by, fate_line, begun_line, draft_account}
use Rattle.results.specs.AuditPage.{Audited, opened_sheet, entries_in, lines_in}
use Rattle.results.proofs.provenance.Marking.{begins_mark}
use Rattle.results.proofs.provenance.Named.{begun_by}
use Rattle.results.proofs.provenance.Fates.{fate_by_marks}
use Rattle.results.proofs.provenance.Refusals.{refused_by_marks}
use Rattle.results.proofs.pages.Alike.{fate_alike, refused_alike}
use Rattle.results.proofs.pages.Held.{counted, marks_alike, lines_alike, place_below, mark_held}
use Rattle.results.proofs.pages.Fields.{desk_small, accepted_on}

-- ---- the places of a fate are calls'

abbrev FateBelow : ℕ → Fate → Type 0
FateBelow k (Stands s) = Unit
FateBelow k (TakenBack s t) = (s < k) × (t < k)
FateBelow k (Cancelled s) = s < k
FateBelow k Never = Unit

settled_by_below :
    (k commit at : ℕ) (r : Role) (b : Bool) (rest : Fate) → commit < k → at < k → FateBelow k rest →
    FateBelow k (settled_by commit at r b rest)
settled_by_below k commit at (beginning n) b rest c h g = g
settled_by_below k commit at (ending n) b rest c h g = g
settled_by_below k commit at (settling n) true rest c h g = tt
settled_by_below k commit at (settling n) false rest c h g = g
settled_by_below k commit at (belonging n even es) b rest c h g = g
settled_by_below k commit at returning true rest c h g = (c, h)
settled_by_below k commit at returning false rest c h g = g
settled_by_below k commit at showing b rest c h g = g

settled_below :
    (k commit at : ℕ) (later : List Entry) → commit < k → at + length later ≤ k →
    FateBelow k (fate_settled commit at later)
unfolding fate_settled
settled_below k commit at [] c h = tt
settled_below k commit at (x ∷ later) c h =
    settled_by_below k commit at (role_in x) (good x) (fate_settled commit (suc at) later) c (omega arith)
    (settled_below k commit (suc at) later c (omega arith))

open_by_below :
    (k n at : ℕ) (r : Role) (b : Bool) (settled rest : Fate) → at < k → FateBelow k settled → FateBelow k rest →
    FateBelow k (open_by n at r b settled rest)
open_by_below k n at (beginning m) b settled rest h s g = g
open_by_below k n at (ending m) b settled rest h s g = go (eqb m n && b)
  where
    go : (t : Bool) → FateBelow k (cond t (Cancelled at) rest)
    go true = h
    go false = g
open_by_below k n at (settling m) b settled rest h s g = go (eqb m n && b)
  where
    go : (t : Bool) → FateBelow k (cond t settled rest)
    go true = s
    go false = g
open_by_below k n at (belonging m even es) b settled rest h s g = g
open_by_below k n at returning b settled rest h s g = g
open_by_below k n at showing b settled rest h s g = g

fate_below : (k n at : ℕ) (later : List Entry) → at + length later ≤ k → FateBelow k (fate_of n at later)
unfolding fate_of
fate_below k n at [] h = tt
fate_below k n at (x ∷ later) h =
    open_by_below k n at (role_in x) (good x) (fate_settled at (suc at) later) (fate_of n (suc at) later) (omega arith)
    (settled_below k at (suc at) later (omega arith) (omega arith))
    (fate_below k n (suc at) later (omega arith))

abbrev RefusedBelow : ℕ → Option ℕ → Type 0
RefusedBelow k None = Unit
RefusedBelow k (Some p) = p < k

refused_below :
    (k n : ℕ) (last : Option ℕ) (at : ℕ) (later : List Entry) → at + length later ≤ k → RefusedBelow k last →
    RefusedBelow k (refused_of n last at later)
unfolding refused_of
refused_below k n last at [] h g = g
refused_below k n last at (x ∷ later) h g =
    either (ends_draft n x)
    (refused_of n (cond (is_refusing n (role_in x) (good x)) (Some at) last) (suc at) later)
    (refused_below k n (cond (is_refusing n (role_in x) (good x)) (Some at) last) (suc at) later (omega arith)
    (now (is_refusing n (role_in x) (good x))))
  where
    now : (t : Bool) → RefusedBelow k (cond t (Some at) last)
    now true = omega arith
    now false = g

    either :
        (t : Bool) (rest : Option ℕ) → RefusedBelow k rest → RefusedBelow k (cond t last rest)
    either true rest r = g
    either false rest r = r

-- ---- lines for places

module _ (numbers lines : List ℕ) (k : ℕ) (same : (p : ℕ) → p < k → number_at numbers p ≡ number_at lines p) where
  fate_lines :
      (n begun : ℕ) (b : Option ℕ) (f : Fate) → FateBelow k f →
      fate_line numbers n begun b f ≡ fate_line lines n begun b f
  fate_lines n begun b (Stands s) h = refl
  fate_lines n begun b (TakenBack s t) h =
      λ i. draft_line n begun b (became.TakenBack (same s h.0 i) (same t h.1 i))
  fate_lines n begun b (Cancelled s) h = λ i. draft_line n begun b (became.Cancelled (same s h i))
  fate_lines n begun b Never h = refl

  balked_lines : (r : Option ℕ) → RefusedBelow k r → balked_by numbers r ≡ balked_by lines r
  balked_lines None h = refl
  balked_lines (Some p) h = ap Some (same p h)

-- ---- THE LINE of a draft

module _ (a : Audited) (front later : List Entry) (b : Entry) (split : entries_in a ≡ front ++ (b ∷ later)) where
  abbrev at : ℕ
  at = length front

  after : a.kept.count - suc at ≡ length later
  after = omega (arith, counted a, ap length split, length-append front (b ∷ later))

  module _ (n : ℕ) (begun_here : begins n b ≡ true) where
    mark_is : (is_done 8 (mark_of b) ≡ true) × (eqb (mark_desk (mark_of b)) n ≡ true)
    mark_is = both_true (is_done 8 (mark_of b)) (eqb (mark_desk (mark_of b)) n) (begins_mark n b ∙ begun_here)

    done_here : is_done 8 (mark_at a.marks at) ≡ true
    done_here = ap (is_done 8) (mark_held a front later b split) ∙ mark_is.0

    desk_here : desk_at a.marks at ≡ n
    desk_here =
        let is = begun_by n b.call (good b) begun_here in
        let on = accepted_on a.source (calls_told a.calls) (opened_sheet a) front later b (begin n) split is.0 is.1 in
        ap (λ (m : ℕ). mark_desk m % 2 ^ 32) (mark_held a front later b split)
        ∙ ap (λ (m : ℕ). m % 2 ^ 32) (eqb-true (mark_desk (mark_of b)) n mark_is.1)
        ∙ desk_small n (begun a.source n on.0 on.1).desk

    fate_here : fate_from a.marks n (suc at) (a.kept.count - suc at) ≡ fate_of n (suc at) later
    fate_here =
        fate_alike a.marks (marks_of (entries_in a)) n (suc at) (a.kept.count - suc at)
        (λ i h. marks_alike a i (omega (arith, place_below a front later b split)))
        ∙ ap₂ (λ (l : List Entry) (k : ℕ). fate_from (marks_of l) n (suc at) k) split after
        ∙ fate_by_marks n front later b

    refused_here :
        refused_from a.marks n None (suc at) (a.kept.count - suc at)
        ≡ refused_of n None (suc at) later
    refused_here =
        refused_alike a.marks (marks_of (entries_in a)) n None (suc at) (a.kept.count - suc at)
        (λ i h. marks_alike a i (omega (arith, place_below a front later b split)))
        ∙ ap₂ (λ (l : List Entry) (k : ℕ). refused_from (marks_of l) n None (suc at) k) split after
        ∙ refused_by_marks n None front later b

    begun_line_law :
        begun_line a.marks a.numbers a.kept.count n at
        ≡ fate_line (lines_in a) n (number_at (lines_in a) at)
        (balked_by (lines_in a) (refused_of n None (suc at) later))
        (fate_of n (suc at) later)
    unfolding begun_line
    begun_line_law =
        let count = a.kept.count in
        let low : suc at + length later ≤ count = omega (arith, after, place_below a front later b split) in
        let f = fate_of n (suc at) later in
        let r = refused_of n None (suc at) later in
        let line = lines_alike a at (place_below a front later b split) in
        let said = balked_lines a.numbers (lines_in a) count (lines_alike a) r
        (refused_below count n None (suc at) later low tt) in
        (λ i. fate_line a.numbers n (line i) (balked_by a.numbers (refused_here i)) (fate_here i))
        ∙ ap (λ (x : Option ℕ). fate_line a.numbers n (number_at (lines_in a) at) x f) said
        ∙ fate_lines a.numbers (lines_in a) count (lines_alike a) n (number_at (lines_in a) at)
        (balked_by (lines_in a) r) f (fate_below count n (suc at) later low)

    pub page_drafts :
        draft_account a.marks a.numbers a.kept.count at
        ≡ fate_line (lines_in a) n (number_at (lines_in a) at)
        (balked_by (lines_in a) (refused_of n None (suc at) later))
        (fate_of n (suc at) later)
    unfolding draft_account
    page_drafts =
        cond_true _ _ done_here
        ∙ ap (λ (m : ℕ). begun_line a.marks a.numbers a.kept.count m at) desk_here
        ∙ begun_line_law

  -- a call that begins no draft has none
  pub page_no_draft :
      ((n : ℕ) → begins n b ≡ false) → draft_account a.marks a.numbers a.kept.count at ≡ []
  unfolding draft_account
  page_no_draft none =
      let n = mark_desk (mark_of b) in
      let undone : is_done 8 (mark_of b) ≡ false =
      sym (and-true (is_done 8 (mark_of b)))
      ∙ ap (λ (t : Bool). is_done 8 (mark_of b) && t) (sym (eq-eqb n n refl))
      ∙ begins_mark n b
      ∙ none n in
      cond_false _ _ (ap (is_done 8) (mark_held a front later b split) ∙ undone)
