-- The calls of the page's shorter journal, part after part, are its lines: the places in the buffer are
-- those kept, and texts in turn are those of a list. Assumes nothing.
use Rattle.std.proofs.Common.{ℕ, zero, suc, ◌<◌, ◌≤◌, min, List, [], ◌∷◌, ◌++◌, append-nil, append_assoc, ◌≡◌, refl, sym, ap, ap₂, ◌∙◌, arith, length, get_or, take, get_or-take, take_all, take-suc}
use Rattle.listing.specs.Fields.{in_turn}
use Rattle.auditing.specs.Accounts.{number_at, line_account}
use Rattle.results.specs.AuditPage.{Audited, lines_at, places_kept}
use Rattle.results.proofs.pages.Room.{page_room}

-- ---- texts in turn

pub turn_same : (f g : ℕ → List ℕ) (n : ℕ) → ((j : ℕ) → j < n → f j ≡ g j) → in_turn f n ≡ in_turn g n
unfolding in_turn
turn_same f g zero h = refl
turn_same f g (suc n) h = ap₂ ◌++◌ (turn_same f g n (λ j q. h j (omega arith))) (h n (omega arith))

module _ (text starts : List ℕ) where
  abbrev line_of : ℕ → List ℕ
  line_of p = line_account text (number_at starts p)

  lines_one : (p : ℕ) → lines_at text starts (p ∷ []) ≡ line_of p
  unfolding lines_at
  lines_one p = append-nil (line_of p)

  lines_both : (ps qs : List ℕ) → lines_at text starts (ps ++ qs) ≡ lines_at text starts ps ++ lines_at text starts qs
  unfolding lines_at
  lines_both [] qs = refl
  lines_both (p ∷ ps) qs =
      ap (λ (l : List ℕ). line_of p ++ l) (lines_both ps qs)
      ∙ sym (append_assoc (line_of p) (lines_at text starts ps) (lines_at text starts qs))

  -- the first n of a list
  turn_lines :
      (l : List ℕ) (n : ℕ) → n ≤ length l →
      in_turn (λ (j : ℕ). line_of (number_at l j)) n ≡ lines_at text starts (take n l)
  unfolding in_turn lines_at
  turn_lines l zero h = refl
  turn_lines l (suc n) h =
      ap (λ (x : List ℕ). x ++ line_of (number_at l n)) (turn_lines l n (omega arith))
      ∙ ap (λ (x : List ℕ). lines_at text starts (take n l) ++ x) (sym (lines_one (number_at l n)))
      ∙ sym (lines_both (take n l) (number_at l n ∷ []))
      ∙ sym (ap (lines_at text starts) (take-suc l n 0 h))

-- ---- THE CALLS of the page

pub page_calls :
    (a : Audited) (places : List ℕ) (size : ℕ) → length a.calls ≤ length places →
    size ≡ min (length (places_kept a)) (suc (length places)) →
    (let n = min size (length places) in take n places ≡ take n (places_kept a)) →
    in_turn (λ (j : ℕ). line_account a.text (number_at a.starts (number_at places j))) size
    ≡ lines_at a.text a.starts (places_kept a)
page_calls a places size room count held =
    let kept = places_kept a in
    let few = page_room a in
    let all : size ≡ length kept = omega arith in
    let n : min size (length places) ≡ size = omega arith in
    let same : take size places ≡ take size kept =
    ap (λ (k : ℕ). take k places) (sym n) ∙ held ∙ ap (λ (k : ℕ). take k kept) n in
    let place : (j : ℕ) → j < size → number_at places j ≡ number_at kept j =
    λ j q. sym (get_or-take size places j 0 q) ∙ ap (λ (l : List ℕ). get_or l j 0) same ∙ get_or-take size kept j 0 q in
    turn_same _ _ size (λ j q. ap (λ (p : ℕ). line_account a.text (number_at a.starts p)) (place j q))
    ∙ turn_lines a.text a.starts kept size (omega arith)
    ∙ ap (lines_at a.text a.starts) (take_all size kept (omega arith))
