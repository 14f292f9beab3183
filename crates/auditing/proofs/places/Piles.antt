-- A buffer that is given one list of places after the other: it counts them up to one past its end,
-- and holds as many as fit. Assumes nothing.
use Rattle.std.proofs.Common.{ℕ, suc, ◌+◌, ◌-◌, ◌<◌, ◌≤◌, min, Bool, true, false, cond, List, [], ◌∷◌, ◌++◌, append-nil, ◌≡◌, refl, sym, ap, subst, ◌∙◌, arith, add-one, ltb, ltb-true, ltb-false, length, get_or, set, take, length-append, length-set, length-take, get_or-set_same, get_or-set_other, get_or-take, ext_get_or}
use lib.ListN.{get_or-append}
use lib.Seq.{append_snoc, set_out, get_or-append_seam}
use Rattle.base.proofs.verdicts.Picks.{cond_true, cond_false}
use Rattle.auditing.specs.Marks.{mark_desk, is_done, mark_at, own_places, kept_at, kept_places, Pile, pile, given, all_given, is_alone, is_draft_mark, draft_places}
use Rattle.auditing.proofs.places.Fates.{left_next, left_none}

-- ---- one place, with room and without

pub given_in : (size place : ℕ) (held : List ℕ) → size < length held → pile (size + 1) (set held size place) ≡ given place (pile size held)
unfolding given
given_in size place held h =
    let e : size + 1 ≡ min (suc size) (suc (length held)) = omega arith in
    λ t. pile (e t) (set held size place)

pub given_past : (size place : ℕ) (held : List ℕ) → length held ≤ size → pile (length held + 1) held ≡ given place (pile size held)
unfolding given
given_past size place held h =
    let e : length held + 1 ≡ min (suc size) (suc (length held)) = omega arith in
    let f = sym (set_out held size place h) in
    λ t. pile (e t) (f t)

-- ---- one list after the other

given_both : (l m : List ℕ) (p : Pile) → all_given (l ++ m) p ≡ all_given m (all_given l p)
unfolding all_given
given_both [] m p = refl
given_both (x ∷ l) m p = given_both l m (given x p)

given_one : (x : ℕ) (p : Pile) → all_given (x ∷ []) p ≡ given x p
unfolding all_given
given_one x p = refl

-- ---- what the buffer then holds

-- it has been given the places l
record Holds (l : List ℕ) (p : Pile) : Type 0 where
  pub counted : p.size ≡ min (length l) (suc (length p.held))
  pub placed : (i : ℕ) → i < length l → i < length p.held → get_or p.held i 0 ≡ get_or l i 0

holds_none : (held : List ℕ) → Holds [] (pile 0 held)
holds_none held = record { counted = omega arith; placed = λ i h. absurd (omega arith) }

-- each place stands in its turn
placed_one :
    (l : List ℕ) (x : ℕ) (p : Pile) → Holds l p → (i : ℕ) → i < length (l ++ (x ∷ [])) → i < length p.held →
    get_or (set p.held p.size x) i 0 ≡ get_or (l ++ (x ∷ [])) i 0
placed_one l x p s i h room = go (ltb i (length l)) refl
  where
    go : (b : Bool) → ltb i (length l) ≡ b → get_or (set p.held p.size x) i 0 ≡ get_or (l ++ (x ∷ [])) i 0
    go true e =
        let c = s.counted in
        let below : i < length l = ltb-true i (length l) e in
        get_or-set_other p.held p.size i x 0 (λ q. omega arith)
        ∙ s.placed i below room
        ∙ sym (get_or-append l (x ∷ []) 0 i below)
    go false e =
        let c = s.counted in
        let n = length-append l (x ∷ []) in
        let above : length l ≤ i = ltb-false i (length l) e in
        let last : i ≡ length l = omega arith in
        let top : length l ≡ p.size = omega arith in
        ap (λ (k : ℕ). get_or (set p.held p.size x) k 0) (last ∙ top)
        ∙ get_or-set_same p.held p.size x 0 (omega arith)
        ∙ sym (ap (λ (k : ℕ). get_or (l ++ (x ∷ [])) k 0) last ∙ get_or-append_seam l x [] 0)

holds_one : (l : List ℕ) (x : ℕ) (p : Pile) → Holds l p → Holds (l ++ (x ∷ [])) (given x p)
unfolding given
holds_one l x p s =
    let c = s.counted in
    let n = length-append l (x ∷ []) in
    let k = length-set p.held p.size x in
    record { counted = omega arith; placed = λ i h room. placed_one l x p s i h (omega arith) }

holds_all : (l m : List ℕ) (p : Pile) → Holds l p → Holds (l ++ m) (all_given m p)
unfolding all_given
holds_all l [] p s = subst (λ (x : List ℕ). Holds x p) (sym (append-nil l)) s
holds_all l (x ∷ m) p s =
    subst (λ (y : List ℕ). Holds y (all_given m (given x p))) (append_snoc l x m) (holds_all (l ++ (x ∷ [])) m (given x p) (holds_one l x p s))

held_length : (l : List ℕ) (p : Pile) → length (all_given l p).held ≡ length p.held
unfolding all_given given
held_length [] p = refl
held_length (x ∷ l) p = held_length l (given x p) ∙ length-set p.held p.size x

-- what a buffer holds that has been given the places l from its start on
module _ (l before after : List ℕ) (size : ℕ) (e : pile size after ≡ all_given l (pile 0 before)) where
  same_room : length after ≡ length before
  same_room = ap (λ (p : Pile). length p.held) e ∙ held_length l (pile 0 before)

  holds : Holds l (pile size after)
  holds = subst (Holds l) (sym e) (holds_all [] l (pile 0 before) (holds_none before))

  all_counted : size ≡ min (length l) (suc (length before))
  all_counted = holds.counted ∙ ap (λ (k : ℕ). min (length l) (suc k)) same_room

  all_placed : take (min size (length before)) after ≡ take (min size (length before)) l
  all_placed =
      let n = min size (length before) in
      let c = all_counted in
      let room = same_room in
      let a = length-take n after in
      let b = length-take n l in
      ext_get_or 0 (take n after) (take n l) (omega arith)
      (λ i h.
      get_or-take n after i 0 (omega arith)
      ∙ holds.placed i (omega arith) (omega arith)
      ∙ sym (get_or-take n l i 0 (omega arith)))

  abbrev many : ℕ
  many = size

  abbrev n_given : ℕ
  n_given = min size (length before)

  pub all_kept :
      record {
        size : many ≡ min (length l) (suc (length before));
        places : take n_given after ≡ take n_given l;
        room : length after ≡ length before;
      }
  all_kept = record { size = all_counted; places = all_placed; room = same_room }

-- ---- a draft's places and the shorter list's, a call at a time

given_if : (b : Bool) (x : ℕ) (l : List ℕ) (p : Pile) → all_given (cond b (x ∷ l) l) p ≡ all_given l (cond b (given x p) p)
unfolding all_given
given_if true x l p = refl
given_if false x l p = refl

-- the call at place k, which has the mark m, is given where it is a draft's
pub draft_next :
    (ms : List ℕ) (n j k m : ℕ) (p : Pile) {b : Bool} {q : Pile} → k < j → m ≡ mark_at ms k → b ≡ is_draft_mark n m → q ≡ cond b (given k p) p →
    all_given (draft_places ms n (k + 1) (j - (k + 1))) q ≡ all_given (draft_places ms n k (j - k)) p
unfolding draft_places
draft_next ms n j k m p h e w g =
    let t = w ∙ ap (is_draft_mark n) e in
    let rest = draft_places ms n (k + 1) (j - (k + 1)) in
    ap (all_given rest) (g ∙ ap (λ (x : Bool). cond x (given k p) p) t)
    ∙ sym (given_if (is_draft_mark n (mark_at ms k)) k rest p)
    ∙ ap (λ (i : ℕ). all_given (cond (is_draft_mark n (mark_at ms k)) (k ∷ draft_places ms n i (j - (k + 1))) (draft_places ms n i (j - (k + 1)))) p) (add-one k)
    ∙ sym (ap (λ (i : ℕ). all_given (draft_places ms n k i) p) (left_next k j h))

pub draft_end : (ms : List ℕ) (n j k : ℕ) (p : Pile) → j ≤ k → all_given (draft_places ms n k (j - k)) p ≡ p
unfolding draft_places all_given
draft_end ms n j k p h = ap (λ (i : ℕ). all_given (draft_places ms n k i) p) (left_none k j h)

-- what the call at place j is kept with, by its mark m
kept_at_law :
    (ms : List ℕ) (j m : ℕ) → m ≡ mark_at ms j →
    kept_at ms j ≡ cond (is_done 9 m) (own_places ms (mark_desk m) j ++ (j ∷ [])) (cond (is_alone m) (j ∷ []) [])
unfolding kept_at
kept_at_law ms j m e =
    ap (λ (x : ℕ). cond (is_done 9 x) (own_places ms (mark_desk x) j ++ (j ∷ [])) (cond (is_alone x) (j ∷ []) [])) (sym e)

pub kept_commit :
    (ms : List ℕ) (j m : ℕ) (p : Pile) {q s : Pile} → m ≡ mark_at ms j → is_done 9 m ≡ true → q ≡ all_given (own_places ms (mark_desk m) j) p → s ≡ given j q →
    s ≡ all_given (kept_at ms j) p
kept_commit ms j m p e t o g =
    g
    ∙ sym (given_one j _)
    ∙ ap (all_given (j ∷ [])) o
    ∙ sym (given_both (own_places ms (mark_desk m) j) (j ∷ []) p)
    ∙ sym (ap (λ (l : List ℕ). all_given l p) (kept_at_law ms j m e ∙ cond_true _ _ t))

pub kept_other :
    (ms : List ℕ) (j m : ℕ) (p : Pile) {b : Bool} {q : Pile} → m ≡ mark_at ms j → is_done 9 m ≡ false → b ≡ is_alone m → q ≡ cond b (given j p) p →
    q ≡ all_given (kept_at ms j) p
unfolding all_given
kept_other ms j m p e t w g =
    g
    ∙ ap (λ (x : Bool). cond x (given j p) p) w
    ∙ sym (given_if (is_alone m) j [] p)
    ∙ sym (ap (λ (l : List ℕ). all_given l p) (kept_at_law ms j m e ∙ cond_false _ _ t))

pub kept_start : (ms : List ℕ) (p : Pile) → p ≡ all_given (kept_places ms 0) p
unfolding kept_places all_given
kept_start ms p = refl

pub kept_next :
    (ms : List ℕ) (j : ℕ) (p : Pile) {q s : Pile} → q ≡ all_given (kept_places ms j) p → s ≡ all_given (kept_at ms j) q → s ≡ all_given (kept_places ms (j + 1)) p
unfolding kept_places
kept_next ms j p e f =
    f
    ∙ ap (all_given (kept_at ms j)) e
    ∙ sym (given_both (kept_places ms j) (kept_at ms j) p)
    ∙ sym (ap (λ (i : ℕ). all_given (kept_places ms i) p) (add-one j))
