-- The lines of a text: a newline ends the first, and the others follow it; a byte at a time.
-- Assumes nothing.
use Rattle.std.proofs.Common.{ltb, not, position, Option, Some, None, ◌==◌, ℕ, zero, suc, ◌+◌, ◌-◌, ◌<◌, ◌≤◌, Bool, true, false, cond, List, [], ◌∷◌, ◌++◌, append-nil, ◌≡◌, refl, sym, ap, ◌∙◌, arith, add-one, eqb, length, get_or, take, drop, length-drop, drop_of_length-le, drop-drop}
use Rattle.std.specs.Option.{unwrap_or}
use Rattle.std.proofs.lemmas.Bool.{ltb-false}
use Rattle.std.proofs.lemmas.List.Recursion.{is_position_or_len}
use Rattle.std.proofs.lemmas.List.Sums.{prefix_len-le-length}
use lib.Seq.{append_snoc, take-length}
use Rattle.auditing.specs.Gathered.{lines_from, text_lines, first_line, line_at}

-- ---- the first line

taken_one :
    (b : Bool) (c : ℕ) (l m : List ℕ) → take (length m) l ≡ m →
    take (length (cond b [] (c ∷ m))) (c ∷ l) ≡ cond b [] (c ∷ m)
taken_one true c l m e = refl
taken_one false c l m e = ap (λ (x : List ℕ). c ∷ x) e

-- it is the start of the text
first_taken : (l : List ℕ) → take (length (first_line l)) l ≡ first_line l
unfolding first_line
first_taken [] = refl
first_taken (c ∷ l) = taken_one (eqb c 10) c l (first_line l) (first_taken l)

no_longer_one : (b : Bool) (c : ℕ) (l m : List ℕ) → length m ≤ length l → length (cond b [] (c ∷ m)) ≤ suc (length l)
no_longer_one true c l m h = omega arith
no_longer_one false c l m h = omega arith

first_no_longer : (l : List ℕ) → length (first_line l) ≤ length l
unfolding first_line
first_no_longer [] = omega arith
first_no_longer (c ∷ l) = no_longer_one (eqb c 10) c l (first_line l) (first_no_longer l)

-- ---- a line by where it begins

-- none past the text's end
pub line_past : (text : List ℕ) (k : ℕ) → length text ≤ k → length (line_at text k) ≡ 0
unfolding first_line
line_past text k h = ap (λ (l : List ℕ). length (first_line l)) (drop_of_length-le text h)

-- else as many bytes as stand before a newline
found_or :
    (test : Bool) (n most : ℕ) → ltb n most ≡ test → n ≤ most →
    unwrap_or (cond test (Some n) None) most ≡ n
found_or true n most e h = refl
found_or false n most e h = let past = ltb-false n most e in omega arith

length_cons : (b : Bool) (c : ℕ) (m : List ℕ) → length (cond b [] (c ∷ m)) ≡ cond b 0 (1 + length m)
length_cons true c m = refl
length_cons false c m = omega arith

pub line_length :
    (text : List ℕ) (k : ℕ) {found : Option ℕ} →
    let rest = take (length text - k) (drop k text) in
    found ≡ position (λ (x : ℕ). x == 10) rest → unwrap_or found (length rest) ≡ length (line_at text k)
unfolding first_line
line_length text k e =
    let newline : ℕ → Bool = λ x. x == 10 in
    let rest = drop k text in
    let size : length text - k ≡ length rest = let d = length-drop k text in omega arith in
    let all : take (length text - k) rest ≡ rest = ap (λ (n : ℕ). take n rest) size ∙ take-length rest in
    ap (λ (o : Option ℕ). unwrap_or o (length (take (length text - k) rest))) e
    ∙ ap (λ (l : List ℕ). unwrap_or (position newline l) (length l)) all
    ∙ found_or _ _ _ refl (prefix_len-le-length (λ (x : ℕ). not (x == 10)) rest)
    ∙ sym
    (is_position_or_len (λ (l : List ℕ). length (first_line l)) newline refl
    (λ c l. length_cons (eqb c 10) c (first_line l)) rest)

-- where its end is found
pub line_found :
    (text : List ℕ) (from r : ℕ) → r ≡ from + length (line_at text from) →
    record {
      place : r ≡ from + length (line_at text from);
      line : take (r - from) (drop from text) ≡ line_at text from;
      within : from ≤ length text → r ≤ length text;
    }
line_found text from r e =
    let size : r - from ≡ length (line_at text from) = omega arith in
    let most = first_no_longer (drop from text) in
    let rest = length-drop from text in
    record {
      place = e;
      line = ap (λ (i : ℕ). take i (drop from text)) size ∙ first_taken (drop from text);
      within = λ h. omega arith;
    }

-- ---- the others

none_one :
    (b : Bool) (w : List ℕ) (c : ℕ) (l m : List ℕ) → (length l ≤ length m → lines_from (w ++ (c ∷ [])) l ≡ []) →
    suc (length l) ≤ length (cond b [] (c ∷ m)) → cond b (w ∷ lines_from [] l) (lines_from (w ++ (c ∷ [])) l) ≡ []
none_one true w c l m f h = absurd (omega arith)
none_one false w c l m f h = f (omega arith)

lines_none : (w l : List ℕ) → length l ≤ length (first_line l) → lines_from w l ≡ []
unfolding lines_from first_line
lines_none w [] h = refl
lines_none w (c ∷ l) h = none_one (eqb c 10) w c l (first_line l) (lines_none (w ++ (c ∷ [])) l) h

more_one :
    (b : Bool) (w : List ℕ) (c : ℕ) (l m : List ℕ) →
    (length m < length l →
    lines_from (w ++ (c ∷ [])) l ≡ ((w ++ (c ∷ [])) ++ m) ∷ lines_from [] (drop (suc (length m)) l)) →
    length (cond b [] (c ∷ m)) < suc (length l) →
    cond b (w ∷ lines_from [] l) (lines_from (w ++ (c ∷ [])) l)
    ≡ (w ++ cond b [] (c ∷ m)) ∷ lines_from [] (drop (suc (length (cond b [] (c ∷ m)))) (c ∷ l))
more_one true w c l m f h = ap (λ (x : List ℕ). x ∷ lines_from [] l) (sym (append-nil w))
more_one false w c l m f h =
    f (omega arith)
    ∙ ap (λ (x : List ℕ). x ∷ lines_from [] (drop (suc (length m)) l)) (append_snoc w c m)

lines_more :
    (w l : List ℕ) → length (first_line l) < length l →
    lines_from w l ≡ (w ++ first_line l) ∷ lines_from [] (drop (suc (length (first_line l))) l)
unfolding lines_from first_line
lines_more w [] h = absurd (omega arith)
lines_more w (c ∷ l) h = more_one (eqb c 10) w c l (first_line l) (lines_more (w ++ (c ∷ [])) l) h

-- ---- n lines stand before the byte s

pub LinesTo : List ℕ → ℕ → ℕ → Type 0
LinesTo text n s = lines_from [] (drop s text) ≡ drop n (text_lines text)

pub lines_start : (text : List ℕ) → LinesTo text 0 0
unfolding LinesTo
lines_start text = refl

-- what stands at the place n of a list, by what is left there
at_place :
    (ls : List (List ℕ)) (n : ℕ) (x : List ℕ) (rest : List (List ℕ)) → drop n ls ≡ x ∷ rest →
    (n < length ls) × ((get_or ls n [] ≡ x) × (drop (suc n) ls ≡ rest))
at_place [] zero x rest e = absurd (omega (arith, ap length e))
at_place [] (suc n) x rest e = absurd (omega (arith, ap length e))
at_place (y ∷ ls) zero x rest e = (omega arith, (cc, cc))
at_place (y ∷ ls) (suc n) x rest e = let h = at_place ls n x rest e in (omega arith, h.1)

-- one line more, which ends before the text's end
module _ (text : List ℕ) (n s end : ℕ) (before : LinesTo text n s) (e : end ≡ s + length (line_at text s)) where
  split : end < length text → drop n (text_lines text) ≡ line_at text s ∷ lines_from [] (drop (end + 1) text)
  unfolding LinesTo
  split h =
      let rest = length-drop s text in
      let place : s + suc (length (line_at text s)) ≡ end + 1 = omega arith in
      sym before
      ∙ lines_more [] (drop s text) (omega arith)
      ∙ ap (λ (l : List ℕ). line_at text s ∷ lines_from [] l) (drop-drop (suc (length (line_at text s))) s text)
      ∙ ap (λ (i : ℕ). line_at text s ∷ lines_from [] (drop i text)) place

  pub is_line : end < length text → (n < length (text_lines text)) × (get_or (text_lines text) n [] ≡ line_at text s)
  is_line h = let a = at_place (text_lines text) n (line_at text s) _ (split h) in (a.0, a.1.0)

  pub lines_next : end < length text → LinesTo text (n + 1) (end + 1)
  unfolding LinesTo
  lines_next h =
      sym (at_place (text_lines text) n (line_at text s) _ (split h)).1.1
      ∙ sym (ap (λ (i : ℕ). drop i (text_lines text)) (add-one n))

  -- no line ends there
  pub lines_done : length text ≤ end → length (text_lines text) ≤ n
  unfolding LinesTo
  lines_done h =
      let size = length-drop s text in
      let none = sym before ∙ lines_none [] (drop s text) (omega arith) in
      omega (arith, sym (length-drop n (text_lines text)) ∙ ap length none)
