-- Origins, fates and the shorter list's places of one list of calls, over its entries and by marks: by
-- computation. Assumes nothing.
use Rattle.std.proofs.Common.{Err, None, Ok, Some, ℕ, false, List, [], ◌∷◌, ◌≡◌, refl, Float}
use Rattle.base.specs.declared.refusal.Refusal.TheVariants.{Stale, Figures}
use Rattle.worksheet.specs.declared.inputs.Edit.TheVariants.{Sunspot, Hour}
use Rattle.worksheet.specs.declared.desks.Worksheet.{Worksheet}
use Rattle.worksheet.specs.Journal.{Call, begin, commit, cancel, change, take_back, show, told, shown, Entry}
use Rattle.worksheet.specs.InForce.{force_after, commits_in_force}
use Rattle.auditing.specs.declared.marks.Origin.TheVariants.{Opened, Set}
use Rattle.auditing.specs.declared.marks.Fate.TheVariants.{Stands, TakenBack, Cancelled, Never}
use Rattle.auditing.specs.Provenance.{standing_in, own_changes, standing_by, last_of, origin_of, edits_named, named_changes}
use Rattle.auditing.specs.Marks.{mark_of, marks_of, change_before, origin_before, settled_from, fate_from, refused_from, own_places, kept_at, kept_places}

abbrev done : Call → Entry
done c = record { call = c; answer = told (Ok tt) }

-- two desks draft, and one cannot commit; a third is taken back; a fourth is open at the end
module _ (w : Worksheet) (h i : Float) (s : Float) where
  abbrev entries : List Entry
  entries =
      done (begin 1)
      ∷ done (begin 2)
      ∷ done (change 1 (Hour h))
      ∷ done (change 2 (Sunspot s))
      ∷ done (commit 1)
      ∷ record { call = commit 2; answer = told (Err Stale) }
      ∷ done (cancel 2)
      ∷ done (begin 3)
      ∷ done (change 3 (Hour i))
      ∷ record { call = show 3 []; answer = shown (Err Figures) [] }
      ∷ done (commit 3)
      ∷ done take_back
      ∷ record { call = show 0 []; answer = shown (Err Figures) [] }
      ∷ done (begin 4)
      ∷ []

  abbrev marks : List ℕ
  marks = 56 ∷ 88 ∷ 51 ∷ 82 ∷ 57 ∷ 73 ∷ 90 ∷ 120 ∷ 115 ∷ 108 ∷ 121 ∷ 27 ∷ 12 ∷ 152 ∷ []

  the_marks : marks_of entries ≡ marks
  unfolding marks_of mark_of
  the_marks = refl

  hour_origin : origin_of 3 w entries ≡ Set 2 4
  unfolding commits_in_force force_after standing_by own_changes standing_in last_of
  hour_origin = refl

  sunspot_origin : origin_of 2 w entries ≡ Opened
  unfolding commits_in_force force_after standing_by own_changes standing_in last_of
  sunspot_origin = refl

  changes_named : named_changes w entries ≡ Hour h ∷ []
  unfolding named_changes edits_named commits_in_force force_after standing_by own_changes standing_in last_of
  changes_named = refl

  by_marks : (origin_before marks 3 false 14 ≡ Set 2 4) × (origin_before marks 2 false 14 ≡ Opened)
  unfolding origin_before change_before
  by_marks = (refl, refl)

  first_fate : fate_from marks 1 1 13 ≡ Stands 4
  unfolding fate_from settled_from
  first_fate = refl

  second_fate : fate_from marks 2 2 12 ≡ Cancelled 6
  unfolding fate_from settled_from
  second_fate = refl

  third_fate : fate_from marks 3 8 6 ≡ TakenBack 10 11
  unfolding fate_from settled_from
  third_fate = refl

  fourth_fate : fate_from marks 4 14 0 ≡ Never
  unfolding fate_from settled_from
  fourth_fate = refl

  second_refused : refused_from marks 2 None 2 12 ≡ Some 5
  unfolding refused_from
  second_refused = refl

  kept : kept_places marks 14 ≡ 0 ∷ 2 ∷ 4 ∷ 7 ∷ 8 ∷ 9 ∷ 10 ∷ 11 ∷ 12 ∷ []
  unfolding kept_places kept_at own_places
  kept = refl
