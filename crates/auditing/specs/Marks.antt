-- The same by marks: of each call of a run one number, which says what it is, whose and whether it
-- was accepted; the calls by their places. Assumes nothing.
use Rattle.std.specs.Prelude.{ℕ, zero, suc, ◌+◌, ◌*◌, ◌/◌, ◌%◌, min, Bool, true, false, cond, not, ◌&&◌, ◌||◌, List, [], ◌∷◌, ◌++◌, eqb, ltb, length, get_or, set, Option, Some}
use Rattle.worksheet.specs.Journal.{Call, begin, commit, cancel, change, take_back, show, Entry, good}
use Rattle.auditing.specs.declared.marks.Origin.{Origin}
use Rattle.auditing.specs.declared.marks.Origin.TheVariants.{Opened, Set}
use Rattle.auditing.specs.declared.marks.Fate.{Fate}
use Rattle.auditing.specs.declared.marks.Fate.TheVariants.{Stands, TakenBack, Cancelled, Never}
use Rattle.auditing.specs.Provenance.{edit_part}

-- ---- the mark of a call: its sort, 16 more where it was accepted, and 32 times its desk

-- 1 to 7 a change of that part, 8 begin, 9 commit, 10 cancel, 11 take back, 12 a showing
abbrev pub sort_of : Call → ℕ
sort_of (begin n) = 8
sort_of (commit n) = 9
sort_of (cancel n) = 10
sort_of (change n e) = edit_part e
sort_of take_back = 11
sort_of (show n lent) = 12

abbrev pub desk_of : Call → ℕ
desk_of (begin n) = n
desk_of (commit n) = n
desk_of (cancel n) = n
desk_of (change n e) = n
desk_of take_back = 0
desk_of (show n lent) = n

abbrev pub mark_with : ℕ → Bool → ℕ → ℕ
mark_with sort good desk = sort + cond good 16 0 + 32 * desk

unfoldable pub mark_of : Entry → ℕ
mark_of x = mark_with (sort_of x.call) (good x) (desk_of x.call)

unfoldable pub marks_of : List Entry → List ℕ
marks_of [] = []
marks_of (x ∷ l) = mark_of x ∷ marks_of l

-- ---- reading a mark

abbrev pub mark_sort : ℕ → ℕ
mark_sort m = m % 16

abbrev pub mark_good : ℕ → Bool
mark_good m = eqb (m / 16 % 2) 1

abbrev pub mark_desk : ℕ → ℕ
mark_desk m = m / 32

-- it is of this sort and accepted; and of this desk
abbrev pub is_done : ℕ → ℕ → Bool
is_done sort m = eqb (mark_sort m) sort && mark_good m

abbrev pub is_done_by : ℕ → ℕ → ℕ → Bool
is_done_by sort n m = is_done sort m && eqb (mark_desk m) n

-- an accepted change by desk n, or a showing of its draft
abbrev pub is_own_mark : ℕ → ℕ → Bool
is_own_mark n m = eqb (mark_desk m) n && (eqb (mark_sort m) 12 || (ltb (mark_sort m) 8 && mark_good m))

-- a commit by desk n that was refused
abbrev pub is_refused_commit : ℕ → ℕ → Bool
is_refused_commit n m = eqb (mark_sort m) 9 && not (mark_good m) && eqb (mark_desk m) n

-- a showing of the worksheet
abbrev pub is_showing : ℕ → Bool
is_showing m = eqb (mark_sort m) 12 && eqb (mark_desk m) 0

-- what the shorter list has by itself: an accepted take-back, or a showing of the worksheet
abbrev pub is_alone : ℕ → Bool
is_alone m = is_done 11 m || is_showing m

abbrev pub mark_at : List ℕ → ℕ → ℕ
mark_at ms k = get_or ms k 0

module _ (ms : List ℕ) where
  -- ---- the origin of a part, looked for backwards from place j

  -- the last accepted change of this part in desk n's draft before place j, which a commit at the
  -- place `settled` settled; `other` where there is none
  unfoldable pub change_before : ℕ → ℕ → ℕ → Origin → ℕ → Origin
  change_before part n settled other zero = other
  change_before part n settled other (suc j) =
      let m = mark_at ms j in
      cond (is_done_by 8 n m) other
      (cond (is_done_by part n m) (Set j settled) (change_before part n settled other j))

  -- `back` says whether the next accepted commit or take-back is a take-back
  unfoldable pub origin_before : ℕ → Bool → ℕ → Origin
  origin_before part back zero = Opened
  origin_before part back (suc j) =
      let m = mark_at ms j in
      cond (is_done 11 m) (origin_before part true j)
      (cond (is_done 9 m)
      (cond back (origin_before part false j) (change_before part (mark_desk m) j (origin_before part false j) j))
      (origin_before part back j))

  -- ---- the fate of a draft, looked for forwards: k calls from place `at` on

  unfoldable pub settled_from : ℕ → ℕ → ℕ → Fate
  settled_from settled at zero = Stands settled
  settled_from settled at (suc k) =
      let m = mark_at ms at in
      cond (is_done 9 m) (Stands settled) (cond (is_done 11 m) (TakenBack settled at) (settled_from settled (suc at) k))

  unfoldable pub fate_from : ℕ → ℕ → ℕ → Fate
  fate_from n at zero = Never
  fate_from n at (suc k) =
      let m = mark_at ms at in
      cond (is_done_by 10 n m) (Cancelled at)
      (cond (is_done_by 9 n m) (settled_from at (suc at) k) (fate_from n (suc at) k))

  -- the last refused commit of the draft, while it is open; `last` where there is none
  unfoldable pub refused_from : ℕ → Option ℕ → ℕ → ℕ → Option ℕ
  refused_from n last at zero = last
  refused_from n last at (suc k) =
      let m = mark_at ms at in
      cond (is_done_by 10 n m || is_done_by 9 n m) last
      (refused_from n (cond (is_refused_commit n m) (Some at) last) (suc at) k)

  -- ---- the shorter list's places

  -- of desk n's draft before place j: its begin and what belongs to it, in their order
  unfoldable pub own_places : ℕ → ℕ → List ℕ
  own_places n zero = []
  own_places n (suc j) =
      let m = mark_at ms j in
      cond (is_done_by 8 n m) (j ∷ []) (cond (is_own_mark n m) (own_places n j ++ (j ∷ [])) (own_places n j))

  -- what the shorter list has for the call at place j
  unfoldable pub kept_at : ℕ → List ℕ
  kept_at j =
      let m = mark_at ms j in
      cond (is_done 9 m) (own_places (mark_desk m) j ++ (j ∷ []))
      (cond (is_alone m) (j ∷ []) [])

  -- of the calls before place j
  unfoldable pub kept_places : ℕ → List ℕ
  kept_places zero = []
  kept_places (suc j) = kept_places j ++ kept_at j

-- ---- on the way: nothing below need be believed

-- `back` of the calls before one with the mark m
unfoldable pub back_before : Bool → ℕ → Bool
back_before back m = cond (is_done 11 m) true (cond (is_done 9 m) false back)

-- a buffer, and how many places it has been given, which counts one past its end and no further
pub record Pile : Type 0 where
  pub size : ℕ
  pub held : List ℕ

abbrev pub pile : ℕ → List ℕ → Pile
pile size held = record { size = size; held = held }

unfoldable pub given : ℕ → Pile → Pile
given x p = pile (min (suc p.size) (suc (length p.held))) (set p.held p.size x)

unfoldable pub all_given : List ℕ → Pile → Pile
all_given [] p = p
all_given (x ∷ l) p = all_given l (given x p)

-- an accepted begin of desk n, or what belongs to its draft
abbrev pub is_draft_mark : ℕ → ℕ → Bool
is_draft_mark n m = is_done_by 8 n m || is_own_mark n m

module _ (ms : List ℕ) where
  -- what a commit at place j brings of its draft, if it stands
  unfoldable pub brought_by : ℕ → Bool → ℕ → Origin
  brought_by part back j =
      let m = mark_at ms j in
      cond back Opened (cond (is_done 9 m) (change_before ms part (mark_desk m) j Opened j) Opened)

  -- of k places from `at` on, those of desk n's begins and of what belongs to its drafts
  unfoldable pub draft_places : ℕ → ℕ → ℕ → List ℕ
  draft_places n at zero = []
  draft_places n at (suc k) =
      let rest = draft_places n (suc at) k in
      cond (is_draft_mark n (mark_at ms at)) (at ∷ rest) rest
