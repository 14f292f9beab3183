-- Lines of the page of one journal of twelve lines, worked out by computation: desk 1 changes the
-- sunspot number and the path and commits, desk 2 begins and cancels, desk 4 is refused, desk 3
-- begins. Assumes nothing.
use Rattle.std.proofs.Common.{ℕ, true, false, List, [], ◌∷◌, ◌≡◌, refl}
use Rattle.wording.specs.Token.{ascii}
use Rattle.listing.specs.declared.account.Came.{Came}
use Rattle.listing.specs.declared.account.Came.TheVariants as came
use Rattle.listing.specs.Text.{digit_of, digit_at, has_digit, digits_below}
use Rattle.listing.specs.Account.{at_line, balked_words, became_words, draft_line}
use Rattle.auditing.specs.declared.accounts.Showing.TheVariants as showing
use Rattle.auditing.specs.Marks.{mark_with, change_before, origin_before, settled_from, fate_from, refused_from}
use Rattle.auditing.specs.Accounts.{showing_by, showing_at, field_part, came_by, begun_line, draft_account}

-- a call of this sort by this desk that was accepted
abbrev done : ℕ → ℕ → ℕ
done sort desk = mark_with sort true desk

-- after the open of line 1, with the numbers of their lines: desk 4 began before desk 1 committed
marks : List ℕ
marks =
    done 8 1 ∷ done 2 1 ∷ done 4 1
    ∷ done 8 2 ∷ done 10 2
    ∷ done 8 4 ∷ done 9 1 ∷ mark_with 9 false 4
    ∷ done 8 3 ∷ done 12 0 ∷ []

numbers : List ℕ
numbers = 2 ∷ 3 ∷ 4 ∷ 5 ∷ 6 ∷ 7 ∷ 8 ∷ 9 ∷ 10 ∷ 12 ∷ []

-- the worksheet is shown on line 12; no call stands on line 11, and on line 10 a begin; on line 12
-- it might have been refused
showings :
    (showing_at marks numbers 10 12 ≡ showing.Shown)
    × (showing_at marks numbers 10 11 ≡ showing.Other)
    × (showing_at marks numbers 9 10 ≡ showing.Other)
    × (showing_at [] [] 0 0 ≡ showing.Other)
    × (showing_by (mark_with 12 false 0) ≡ showing.Refused)
    × (showing_by (done 12 1) ≡ showing.Other)
unfolding marks numbers showing_at showing_by
showings = (refl, refl, refl, refl, refl, refl)

-- where field k comes from
abbrev came_of : ℕ → Came
came_of k = came_by 1 marks numbers (origin_before marks (field_part k) false 10)

-- a path is changed as a whole: fields 4 to 8
origins :
    (came_of 1 ≡ came.Opened 1)
    × (came_of 2 ≡ came.Set 1 3 8)
    × (came_of 3 ≡ came.Opened 1)
    × (came_of 4 ≡ came.Set 1 4 8)
    × (came_of 8 ≡ came.Set 1 4 8)
    × (came_of 9 ≡ came.Opened 1)
    × (came_of 15 ≡ came.Opened 1)
unfolding marks numbers origin_before change_before
origins = (refl, refl, refl, refl, refl, refl, refl)

-- each begin's draft: one that stands has no line, and no other call has one
drafts :
    (draft_account marks numbers 10 0 ≡ [])
    × (draft_account marks numbers 10 3 ≡ ascii "desk 2, begun at line 5: cancelled at line 6\n")
    × (draft_account marks numbers 10 5
    ≡ ascii "desk 4, begun at line 7: refused at line 9, not committed by then\n")
    × (draft_account marks numbers 10 8 ≡ ascii "desk 3, begun at line 10: not committed by then\n")
    × (draft_account marks numbers 10 9 ≡ [])
    × (draft_account marks numbers 10 10 ≡ [])
unfolding marks numbers draft_account begun_line fate_from settled_from refused_from draft_line balked_words became_words at_line digits_below digit_at has_digit digit_of
drafts = (refl, refl, refl, refl, refl, refl)

-- after six calls desk 1's draft was open
earlier : draft_account marks numbers 6 0 ≡ ascii "desk 1, begun at line 2: not committed by then\n"
unfolding marks numbers draft_account begun_line fate_from settled_from refused_from draft_line balked_words became_words at_line digits_below digit_at has_digit digit_of
earlier = refl
