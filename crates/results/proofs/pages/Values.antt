-- The page's value of a field: the standing changes make the inputs in force one after the other, and each
-- changes the fields of its own part, whatever they were, and no others. Assumes nothing.
use Rattle.std.proofs.Common.{ℕ, zero, suc, ◌<◌, ◌≤◌, Bool, true, false, not, List, [], ◌∷◌, ◌++◌, ◌≡◌, refl, ap, ◌∙◌, arith, eqb, eq-eqb}
use borrow.Author.Tests.{not-true}
use Rattle.base.proofs.ladder.Ladders.{and_left, and_right}
use Rattle.maps.specs.declared.inputs.Inputs.{Inputs}
use Rattle.worksheet.specs.declared.inputs.Edit.{Edit}
use Rattle.worksheet.specs.Inputs.{edited}
use Rattle.worksheet.specs.InForce.{changed, in_force}
use Rattle.wording.specs.Written.{inputs_written}
use Rattle.listing.specs.Fields.{field_text}
use Rattle.auditing.specs.Provenance.{edit_part, StandingChange, standing, last_standing, edits_named}
use Rattle.auditing.specs.Gathered.{calls_told}
use Rattle.auditing.specs.Accounts.{field_part}
use Rattle.results.specs.Audit.{none_of_part}
use Rattle.results.specs.AuditPage.{Audited, opened_sheet, entries_in}
use Rattle.results.proofs.provenance.Parts.{mixed, edited_part}
use Rattle.results.proofs.provenance.Changes.{standing_make}
use Rattle.results.proofs.provenance.Named.{none_named, named_stands}
use Rattle.results.proofs.pages.Held.{opened_rest}

-- ---- a field is of one part

-- of the numbers below n
abbrev Each : (ℕ → Type 0) → ℕ → Type 0
Each P zero = Unit
Each P (suc n) = P 0 × Each (λ k. P (suc k)) n

each_one : (P : ℕ → Type 0) (n : ℕ) → Each P n → (k : ℕ) → k < n → P k
each_one P zero h k b = absurd (omega arith)
each_one P (suc n) h zero b = h.0
each_one P (suc n) h (suc k) b = each_one (λ j. P (suc j)) n h.1 k (omega arith)

module _ (p : ℕ → Bool) (i j : Inputs) where
  abbrev Alone : ℕ → Type 0
  Alone k = field_text (mixed p i j) k ≡ field_text (mixed (λ part. p (field_part k)) i j) k

  all_alone : Each (λ k. Alone (suc k)) 15
  unfolding field_text
  all_alone =
      (refl, (refl, (refl, (refl, (refl, (refl, (refl, (refl, (refl, (refl, (refl, (refl, (refl, (refl, (refl, tt)))))))))))))))

  -- where some parts are i's and the others j's, it has i's text or j's by its own part alone
  alone : (k : ℕ) → 1 ≤ k → k ≤ 15 → Alone k
  alone zero low high = absurd (omega arith)
  alone (suc k) low high = each_one (λ m. Alone (suc m)) 15 all_alone k (omega arith)

-- ---- a change, and a field

module _ (k : ℕ) (low : 1 ≤ k) (high : k ≤ 15) where
  by_part :
      (e : Edit) (i j : Inputs) (b : Bool) → eqb (edit_part e) (field_part k) ≡ b →
      field_text (edited e j) k ≡ field_text (mixed (λ part. b) (edited e i) j) k
  by_part e i j b q =
      ap (λ (x : Inputs). field_text x k) (edited_part e i j)
      ∙ alone (eqb (edit_part e)) (edited e i) j k low high
      ∙ ap (λ (c : Bool). field_text (mixed (λ part. c) (edited e i) j) k) q

  -- one of another part leaves it
  left : (e : Edit) (j : Inputs) → eqb (edit_part e) (field_part k) ≡ false → field_text (edited e j) k ≡ field_text j k
  left e j q = by_part e j j false q

  -- one of its part makes it, whatever the inputs were
  made : (e : Edit) (i j : Inputs) → edit_part e ≡ field_part k → field_text (edited e j) k ≡ field_text (edited e i) k
  made e i j q = by_part e i j true (eq-eqb (edit_part e) (field_part k) q)

  -- ---- changes, one after the other

  all_left :
      (l : List StandingChange) (j : Inputs) → none_of_part (field_part k) l ≡ true →
      field_text (changed j (edits_named l)) k ≡ field_text j k
  unfolding changed edits_named none_of_part
  all_left [] j h = refl
  all_left (x ∷ l) j h =
      let other = not (eqb (edit_part x.edit) (field_part k)) in
      let rest = none_of_part (field_part k) l in
      all_left l (edited x.edit j) (and_right other rest h)
      ∙ left x.edit j (not-true (eqb (edit_part x.edit) (field_part k)) (and_left other rest h))

  last_made :
      (before later : List StandingChange) (x : StandingChange) (i j : Inputs) → edit_part x.edit ≡ field_part k →
      none_of_part (field_part k) later ≡ true →
      field_text (changed j (edits_named (before ++ (x ∷ later)))) k ≡ field_text (edited x.edit i) k
  unfolding changed edits_named
  last_made [] later x i j q h = all_left later (edited x.edit j) h ∙ made x.edit i j q
  last_made (y ∷ before) later x i j q h = last_made before later x i (edited y.edit j) q h

  -- ---- THE PAGE

  module _ (a : Audited) where
    abbrev changes : List StandingChange
    changes = standing (opened_sheet a) (entries_in a)

    abbrev opened : Inputs
    opened = inputs_written a.opening

    in_force_text : field_text (in_force (opened_sheet a) (entries_in a)) k ≡ field_text (changed opened (edits_named changes)) k
    in_force_text = ap (λ (i : Inputs). field_text i k) (standing_make a.source opened (calls_told a.calls))

    pub page_set_value :
        (x : StandingChange) (others : List StandingChange) →
        last_standing (field_part k) (opened_sheet a) (entries_in a) ≡ x ∷ others → (any : Inputs) →
        field_text (in_force (opened_sheet a) (entries_in a)) k ≡ field_text (edited x.edit any) k
    page_set_value x others e any =
        let named = named_stands a.source (opened_sheet a) (opened_rest a) (calls_told a.calls) (field_part k) x others e in
        let last = named.1.1 in
        in_force_text
        ∙ ap (λ (l : List StandingChange). field_text (changed opened (edits_named l)) k) last.split
        ∙ last_made last.before last.later x any opened last.of_part last.last

    pub page_opened_value :
        last_standing (field_part k) (opened_sheet a) (entries_in a) ≡ [] →
        field_text (in_force (opened_sheet a) (entries_in a)) k ≡ field_text opened k
    page_opened_value e = in_force_text ∙ all_left changes opened (none_named (field_part k) changes e)
