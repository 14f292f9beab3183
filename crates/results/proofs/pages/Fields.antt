-- The page's line of a field: the origin that the marks give is that of the last standing change, whose
-- entry has the mark of its desk. Assumes nothing.
use Rattle.std.proofs.Common.{Ok, ℕ, zero, suc, ◌%◌, ◌^◌, ◌<◌, ◌≤◌, true, false, List, [], ◌∷◌, ◌++◌, append_assoc, ◌≡◌, refl, sym, ap, subst, ◌∙◌, arith, leb, lit<, get_or, leb-true}
use Rattle.base.specs.declared.refusal.Refusal.TheVariants.{Desk}
use Rattle.base.proofs.verdicts.Refusals.{passed}
use Rattle.worksheet.specs.declared.desks.Worksheet.{Worksheet}
use Rattle.worksheet.specs.Desks.{is_desk, desk_check}
use Rattle.worksheet.specs.Showing.{Source}
use Rattle.worksheet.specs.Journal.{Call, change, Entry, accepted, good, step, run}
use Rattle.worksheet.specs.InForce.{in_force}
use Rattle.worksheet.proofs.drafts.Effects.{both_true, Accepts, was_changed}
use Rattle.listing.specs.declared.account.Came.TheVariants as came
use Rattle.listing.specs.Account.{came_line}
use Rattle.auditing.specs.declared.marks.Origin.TheVariants.{Set}
use Rattle.auditing.specs.Provenance.{StandingChange, last_standing, origin_in}
use Rattle.auditing.specs.Marks.{marks_of, mark_desk, mark_at, origin_before, desk_of}
use Rattle.auditing.specs.Gathered.{calls_told}
use Rattle.auditing.specs.Accounts.{field_parts, field_part, came_by, field_account}
use Rattle.results.specs.ExhibitedFiles.{Below}
use Rattle.results.specs.Audit.{StandsAt}
use Rattle.results.specs.AuditPage.{Audited, opened_sheet, entries_in, came_from}
use Rattle.results.proofs.force.Insured.{run_split, in_force_law}
use Rattle.results.proofs.provenance.Marking.{desk_of_law}
use Rattle.results.proofs.provenance.Named.{named_stands}
use Rattle.results.proofs.provenance.Origins.{origin_by_marks}
use Rattle.results.proofs.pages.Alike.{origin_alike}
use Rattle.results.proofs.pages.Held.{sat, counted, marks_alike, lines_alike, place_below, mark_held, opened_rest}

-- ---- desks are small

-- a desk is its own remainder
pub desk_small : (n : ℕ) → desk_check n ≡ Ok tt → n % 2 ^ 32 ≡ n
unfolding desk_check
desk_small n h =
    let b = both_true (leb 1 n) (leb n 4) (passed (is_desk n) Desk h) in
    let most = leb-true n 4 b.1 in
    omega arith

-- an accepted call of a run was accepted on some worksheet
pub accepted_on :
    (source : Source) (cs : List Call) (w : Worksheet) (front later : List Entry) (x : Entry) (c : Call) →
    (run source cs w).entries ≡ front ++ (x ∷ later) → x.call ≡ c → good x ≡ true →
    (v : Worksheet) × Accepts source c v
accepted_on source cs w front later x c e is g =
    let r = run_split source cs w front x later e in
    let v = (run source r.calls w).sheet in (
      v,
      ap (λ (k : Call). accepted (step source k v).answer) (sym is)
          ∙ sym (ap (λ (y : Entry). good y) r.there)
          ∙ g,
    )

-- ---- fields

below_at : (n : ℕ) (l : List ℕ) (k : ℕ) → 0 < n → Below n l → get_or l k 0 < n
below_at n [] k h b = h
below_at n (x ∷ l) zero h b = b.0
below_at n (x ∷ l) (suc k) h b = below_at n l k h b.1

parts_below : Below 8 field_parts
parts_below = (
  lit< tt,
  (
    lit< tt,
    (
      lit< tt,
      (
        lit< tt,
        (
          lit< tt,
          (
            lit< tt,
            (
              lit< tt,
              (
                lit< tt,
                (
                  lit< tt,
                  (
                    lit< tt,
                    (
                      lit< tt,
                      (lit< tt, (lit< tt, (lit< tt, (lit< tt, (lit< tt, tt))))),
                    ),
                  ),
                ),
              ),
            ),
          ),
        ),
      ),
    ),
  ),
)

part_most : (k : ℕ) → field_part k ≤ 7
part_most k = let h = below_at 8 field_parts k (lit< tt) parts_below in omega arith

module _ (a : Audited) where
  abbrev entries : List Entry
  entries = entries_in a

  -- a standing change by lines is what the page has of it
  came_set :
      (x : StandingChange) → StandsAt entries x →
      came_by a.kept.opened a.marks a.numbers (Set x.place x.settled) ≡ came_from a (x ∷ [])
  came_set x s =
      let d = s.draft in
      let to = d.front ++ (d.its_begin ∷ d.to_change) in
      let rest = d.to_commit ++ (d.its_commit ∷ d.after) in
      let up = d.front ++ (d.its_begin ∷ (d.to_change ++ (d.its_change ∷ d.to_commit))) in
      let here : entries ≡ to ++ (d.its_change ∷ rest) =
      d.in_order ∙ sym (append_assoc d.front (d.its_begin ∷ d.to_change) (d.its_change ∷ rest)) in
      let there : entries ≡ up ++ (d.its_commit ∷ d.after) =
      d.in_order
      ∙ ap (λ (l : List Entry). d.front ++ (d.its_begin ∷ l))
      (sym (append_assoc d.to_change (d.its_change ∷ d.to_commit) (d.its_commit ∷ d.after)))
      ∙ sym (append_assoc d.front (d.its_begin ∷ (d.to_change ++ (d.its_change ∷ d.to_commit))) (d.its_commit ∷ d.after)) in
      let p = s.change_place in
      let q = s.commit_place in
      let n = d.desk in
      let on = accepted_on a.source (calls_told a.calls) (opened_sheet a) to rest d.its_change (change n x.edit) here d.is_change d.made in
      let fits = desk_small n (was_changed a.source n x.edit on.0 on.1).desk in
      let mark : mark_desk (mark_at a.marks x.place) ≡ n =
      ap (λ (k : ℕ). mark_desk (mark_at a.marks k)) (sym p)
      ∙ ap mark_desk (mark_held a to rest d.its_change here)
      ∙ desk_of_law d.its_change
      ∙ ap desk_of d.is_change in
      let desk = ap (λ (k : ℕ). k % 2 ^ 32) mark ∙ fits ∙ s.its_desk in
      let line = lines_alike a x.place (subst (λ (k : ℕ). k < a.kept.count) p (place_below a to rest d.its_change here)) in
      let settled = lines_alike a x.settled (subst (λ (k : ℕ). k < a.kept.count) q (place_below a up d.after d.its_commit there)) in
      λ t. came.Set (desk t) (line t) (settled t)

  came_as :
      (part : ℕ) (l : List StandingChange) → last_standing part (opened_sheet a) entries ≡ l →
      came_by a.kept.opened a.marks a.numbers (origin_in l) ≡ came_from a l
  came_as part [] e = ap came.Opened (sat a).opened
  came_as part (x ∷ l) e =
      came_set x (named_stands a.source (opened_sheet a) (opened_rest a) (calls_told a.calls) part x l e).1.0

  origin_as :
      (part : ℕ) → part ≤ 7 →
      origin_before a.marks part false a.kept.count ≡ origin_in (last_standing part (opened_sheet a) entries)
  origin_as part high =
      origin_alike a.marks (marks_of entries) part false a.kept.count (marks_alike a)
      ∙ ap (origin_before (marks_of entries) part false) (counted a)
      ∙ origin_by_marks a.source (opened_sheet a) (opened_rest a) (calls_told a.calls) part high

  pub inputs_as : a.kept.sheet.inputs ≡ in_force (opened_sheet a) entries
  inputs_as =
      ap (λ (w : Worksheet). w.inputs) (sat a).sheet
      ∙ in_force_law a.source (opened_sheet a) (opened_rest a) (calls_told a.calls)

  -- THE LINE of a field
  pub page_fields :
      (k : ℕ) →
      field_account a.kept.sheet.inputs a.kept.opened a.marks a.numbers a.kept.count k
      ≡ came_line (in_force (opened_sheet a) entries) k (came_from a (last_standing (field_part k) (opened_sheet a) entries))
  unfolding field_account
  page_fields k =
      let part = field_part k in
      let came : came_by a.kept.opened a.marks a.numbers (origin_before a.marks part false a.kept.count)
      ≡ came_from a (last_standing part (opened_sheet a) entries) =
      ap (came_by a.kept.opened a.marks a.numbers) (origin_as part (part_most k))
      ∙ came_as part (last_standing part (opened_sheet a) entries) refl in
      λ t. came_line (inputs_as t) k (came t)
