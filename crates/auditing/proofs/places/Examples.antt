-- Origins, fates and the shorter list of one journal of fifteen calls worked out by computation, with
-- a draft that stands, one that is cancelled and one that is taken back. Assumes nothing.
use Rattle.std.proofs.Common.{None, Some, ℕ, true, false, List, [], ◌∷◌, ◌≡◌, refl}
use Rattle.auditing.specs.declared.marks.Origin.TheVariants.{Opened, Set}
use Rattle.auditing.specs.declared.marks.Fate.TheVariants.{Stands, TakenBack, Cancelled, Never}
use Rattle.auditing.specs.Marks.{mark_with, change_before, origin_before, settled_from, fate_from, refused_from, own_places, kept_at, kept_places, pile, given, all_given}

-- a call of this sort by this desk, accepted or refused
abbrev done : ℕ → ℕ → ℕ
done sort desk = mark_with sort true desk

abbrev failed : ℕ → ℕ → ℕ
failed sort desk = mark_with sort false desk

journal : List ℕ
journal =
    -- 0: desk 1 begins, and changes the month; 2: desk 2 begins, and changes the hour
    done 8 1 ∷ done 1 1 ∷ done 8 2 ∷ done 3 2
    -- 4: a showing of the worksheet; 5: desk 2 commits; 6: desk 1's commit is refused, and it cancels
    ∷ done 12 0 ∷ done 9 2 ∷ failed 9 1 ∷ done 10 1
    -- 8: desk 1 begins again, changes the sunspot number, shows its draft, which is refused, commits
    ∷ done 8 1 ∷ done 2 1 ∷ failed 12 1 ∷ done 9 1
    -- 12: that is taken back; 13: desk 3 begins; 14: a showing of the worksheet, refused
    ∷ done 11 0 ∷ done 8 3 ∷ failed 12 0 ∷ []

-- a change of the draft that stands
hour_set : origin_before journal 3 false 15 ≡ Set 3 5
unfolding journal origin_before change_before
hour_set = refl

-- of a draft that was cancelled, and of one that was taken back; before that it stood
month_opened : origin_before journal 1 false 15 ≡ Opened
unfolding journal origin_before change_before
month_opened = refl

sunspot_opened : origin_before journal 2 false 15 ≡ Opened
unfolding journal origin_before change_before
sunspot_opened = refl

sunspot_set : origin_before journal 2 false 12 ≡ Set 9 11
unfolding journal origin_before change_before
sunspot_set = refl

-- desk 1's second draft stood then, and its first was cancelled: what that changed is not named
cancelled_opened : origin_before journal 1 false 12 ≡ Opened
unfolding journal origin_before change_before
cancelled_opened = refl

-- the drafts of desk 1, the second of which begins at 8
first_fate : fate_from journal 1 1 14 ≡ Cancelled 7
unfolding journal fate_from settled_from
first_fate = refl

second_fate : fate_from journal 1 9 6 ≡ TakenBack 11 12
unfolding journal fate_from settled_from
second_fate = refl

first_refused : refused_from journal 1 None 1 14 ≡ Some 6
unfolding journal refused_from
first_refused = refl

second_refused : refused_from journal 1 None 9 6 ≡ None
unfolding journal refused_from
second_refused = refl

-- that of desk 2 stands, since the take-back took back the commit after it; that of desk 3 is open
other_fate : fate_from journal 2 3 12 ≡ Stands 5
unfolding journal fate_from settled_from
other_fate = refl

open_fate : fate_from journal 3 14 1 ≡ Never
unfolding journal fate_from settled_from
open_fate = refl

-- the shorter list: each commit with its draft's begin, changes and showings before it
kept : kept_places journal 15 ≡ 4 ∷ 2 ∷ 3 ∷ 5 ∷ 8 ∷ 9 ∷ 10 ∷ 11 ∷ 12 ∷ 14 ∷ []
unfolding journal kept_places kept_at own_places
kept = refl

-- into a buffer of three, which counts four
kept_in_three : all_given (kept_places journal 15) (pile 0 (0 ∷ 0 ∷ 0 ∷ [])) ≡ pile 4 (4 ∷ 2 ∷ 3 ∷ [])
unfolding journal kept_places kept_at own_places all_given given
kept_in_three = refl

-- past the end of the marks there is no call
past_the_end : kept_places journal 17 ≡ kept_places journal 15
unfolding journal kept_places kept_at own_places
past_the_end = refl
