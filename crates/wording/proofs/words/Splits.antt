-- The words of a line: they are the parts between its blanks that are not empty, and they are put
-- into the first places one after another. Assumes nothing.
use Rattle.std.proofs.Common.{◌≡◌, refl, sym, ap, ◌∙◌, Bool, true, false, not, cond, eqb, nat_lt, Option, Some, None, List, [], ◌∷◌, ◌++◌, ℕ, zero, suc, ◌+◌, ◌-◌, ◌<◌, ◌≤◌, length, get_or, take, replicate, filter, map, arith, length-take, add-one, zero-add, ◌==◌, ne_eqb, ltb-false, append-nil}
use Rattle.std.specs.List.{enumerate_from, slice_split, onto_first, position, position_or_len}
use Rattle.std.specs.Option.{unwrap_or}
use Rattle.std.proofs.Math.Seq.{take-suc, set-append_seam, append_snoc, take-length}
use Rattle.std.proofs.Math.ListN.{set}
use Rattle.std.proofs.lemmas.List.FromFn.{get_or-enumerate_from, length-enumerate_from}
use Rattle.std.proofs.lemmas.List.{take_all, length-map, map-append}
use Rattle.wording.specs.declared.token.Token.{Token}
use Rattle.wording.specs.declared.token.Token.TheVariants.{End}
use Rattle.wording.specs.Token.{is_blank, uncommented, closed, words_from, token_of, first_tokens}

-- ---- up to a comment

abbrev pub is_mark : ℕ → Bool
is_mark c = eqb c 35

marked : (line : List ℕ) → take (position_or_len is_mark line) line ≡ uncommented line
unfolding uncommented
marked [] = refl
marked (c ∷ line) = by (is_mark c) (marked line)
  where
    by :
        (b : Bool) → take (position_or_len is_mark line) line ≡ uncommented line
        → take (cond (not b) (1 + position_or_len is_mark line) 0) (c ∷ line) ≡ cond b [] (c ∷ uncommented line)
    by true e = refl
    by false e = ap (λ (n : ℕ). take n (c ∷ line)) one-add ∙ ap (λ (l : List ℕ). c ∷ l) e
      where
        one-add : 1 + position_or_len is_mark line ≡ suc (position_or_len is_mark line)
        one-add = omega arith

pub comment_begins : (line : List ℕ) (o : Option ℕ) → o ≡ position is_mark line → take (unwrap_or o (length line)) line ≡ uncommented line
comment_begins line o e =
    by (nat_lt (position_or_len is_mark line) (length line)) refl ∙ marked line
  where
    place : ℕ
    place = position_or_len is_mark line

    by : (b : Bool) → nat_lt place (length line) ≡ b → take (unwrap_or o (length line)) line ≡ take place line
    by b t = ap (λ x. take (unwrap_or x (length line)) line) (e ∙ ap (λ x. cond x (Some place) None) t) ∙ at b t
      where
        at : (b : Bool) → nat_lt place (length line) ≡ b → take (unwrap_or (cond b (Some place) None) (length line)) line ≡ take place line
        at true t = refl
        at false t = take_all _ line (omega arith) ∙ sym (take_all _ line (ltb-false place (length line) t))

-- ---- the parts between blanks

abbrev pub is_word : List ℕ → Bool
is_word w = not (length w == 0)

-- w before the first of them
abbrev first_with : List ℕ → List (List ℕ) → List (List ℕ)
first_with w [] = w ∷ []
first_with w (p ∷ ps) = (w ++ p) ∷ ps

one_word : (w : List ℕ) (ps : List (List ℕ)) → closed w ++ filter is_word ps ≡ filter is_word (w ∷ ps)
one_word [] ps = refl
one_word (c ∷ w) ps = ap (λ (b : Bool). cond (not b) ((c ∷ w) ∷ filter is_word ps) (filter is_word ps)) (sym (ne_eqb (suc (length w)) 0 (λ e. omega arith)))

nothing_first : (ps : List (List ℕ)) → filter is_word (first_with [] ps) ≡ filter is_word ps
nothing_first [] = refl
nothing_first (p ∷ ps) = refl

letter_first : (w : List ℕ) (c : ℕ) (ps : List (List ℕ)) → first_with (w ++ (c ∷ [])) ps ≡ first_with w (onto_first c ps)
letter_first w c [] = refl
letter_first w c (p ∷ ps) = ap (λ (x : List ℕ). x ∷ ps) (append_snoc w c p)

parts_from : (w l : List ℕ) → words_from w l ≡ filter is_word (first_with w (slice_split is_blank l))
unfolding words_from
parts_from w [] = sym (append-nil (closed w)) ∙ one_word w [] ∙ ap (λ (x : List ℕ). filter is_word (x ∷ [])) (sym (append-nil w))
parts_from w (c ∷ l) = by (is_blank c) (parts_from [] l) (parts_from (w ++ (c ∷ [])) l)
  where
    parts : List (List ℕ)
    parts = slice_split is_blank l

    by :
        (b : Bool) → words_from [] l ≡ filter is_word (first_with [] parts) → words_from (w ++ (c ∷ [])) l ≡ filter is_word (first_with (w ++ (c ∷ [])) parts)
        → cond b (closed w ++ words_from [] l) (words_from (w ++ (c ∷ [])) l) ≡ filter is_word (first_with w (cond b ([] ∷ parts) (onto_first c parts)))
    by true p q =
        ap (λ (x : List (List ℕ)). closed w ++ x) (p ∙ nothing_first parts)
        ∙ one_word w parts
        ∙ ap (λ (x : List ℕ). filter is_word (x ∷ parts)) (sym (append-nil w))
    by false p q = q ∙ ap (filter is_word) (letter_first w c parts)

pub words_are : (line : List ℕ) → filter is_word (slice_split is_blank line) ≡ words_from [] line
words_are line = sym (parts_from [] line ∙ nothing_first (slice_split is_blank line))

-- ---- words put into places

-- the first i of them, and `End` behind
abbrev pub put : List (List ℕ) → ℕ → List Token
put ws i = map token_of (take i ws) ++ replicate (25 - i) End

put_one : (ws : List (List ℕ)) (i : ℕ) (w : List ℕ) → i < length ws → i < 25 → set (put ws i) i (token_of (get_or ws i w)) ≡ put ws (i + 1)
put_one ws i w h k =
    let x = token_of (get_or ws i w) in
    let front = map token_of (take i ws) in
    let count : length front ≡ i = omega (arith, length-map (take i ws) token_of, length-take i ws) in
    let room : 25 - i ≡ suc (25 - (i + 1)) = omega arith in
    (λ t. set (front ++ replicate (room t) End) (sym count t) x)
    ∙ set-append_seam front End (replicate (25 - (i + 1)) End) x
    ∙ sym (append_snoc front x (replicate (25 - (i + 1)) End))
    ∙ ap (λ (l : List Token). l ++ replicate (25 - (i + 1)) End)
    (sym (map-append token_of (take i ws) (get_or ws i w ∷ [])) ∙ ap (map token_of) (sym (take-suc ws i w h) ∙ ap (λ (j : ℕ). take j ws) (sym (add-one i))))

ends_first : (m k : ℕ) → m ≤ k → take m (replicate k End) ≡ replicate m End
ends_first zero k h = refl
ends_first (suc m) zero h = absurd (omega arith)
ends_first (suc m) (suc k) h = ap (λ (l : List Token). End ∷ l) (ends_first m k (omega arith))

first_put : (ws : List (List ℕ)) (m k : ℕ) → m ≤ k → take m (map token_of ws ++ replicate k End) ≡ map token_of (take m ws) ++ replicate (m - length (take m ws)) End
first_put ws zero k h = refl
first_put [] (suc m) k h =
    let all : suc m ≡ suc m - 0 = omega arith in
    ends_first (suc m) k h ∙ ap (λ (j : ℕ). replicate j End) all
first_put (w ∷ ws) (suc m) k h =
    let less : m - length (take m ws) ≡ suc m - suc (length (take m ws)) = omega arith in
    ap (λ (l : List Token). token_of w ∷ l) (first_put ws m k (omega arith) ∙ ap (λ (j : ℕ). map token_of (take m ws) ++ replicate j End) less)

all_put : (ws : List (List ℕ)) → let first = take 25 ws in record { 0 = put first (length first) } ≡ first_tokens ws
unfolding first_tokens
all_put ws =
    let first = take 25 ws in
    sym (λ t. record { 0 = (first_put ws 25 25 (omega arith) ∙ ap (λ (l : List (List ℕ)). map token_of l ++ replicate (25 - length first) End) (sym (take-length first))) t })

-- ---- the words of a line, those that have a place

module _ (line : List ℕ) where
  abbrev pub first : List (List ℕ)
  first = take 25 (words_from [] line)

  -- as the loop takes them
  abbrev pub taken : List (ℕ × List ℕ)
  taken = enumerate_from 0 (take 25 (filter is_word (slice_split is_blank line)))

  same_taken : taken ≡ enumerate_from 0 first
  same_taken = ap (λ ws. enumerate_from 0 (take 25 ws)) (words_are line)

  taken_length : length taken ≡ length first
  taken_length = ap length same_taken ∙ length-enumerate_from 0 first

  pub one_taken : (i n : ℕ) (w : List ℕ) → (i < length taken) × ((n, w) ≡ get_or taken i (n, w)) → set (put first i) n (token_of w) ≡ put first (i + 1)
  one_taken i n w h =
      let most = length-take 25 (words_from [] line) in
      let inside : i < length first = omega (arith, taken_length, h.0) in
      let pair : (n, w) ≡ (0 + i, get_or first i w) = h.1 ∙ ap (λ l. get_or l i (n, w)) same_taken ∙ get_or-enumerate_from 0 first i (n, w) inside in
      let place : n ≡ i = ap (λ p. p.0) pair ∙ zero-add i in
      (λ t. set (put first i) (place t) (token_of (ap (λ p. p.1) pair t))) ∙ put_one first i w inside (omega arith)

  pub all_taken : (i : ℕ) → i ≡ length taken → record { 0 = put first i } ≡ first_tokens (words_from [] line)
  all_taken i h = (λ t. record { 0 = put first ((h ∙ taken_length) t) }) ∙ all_put (words_from [] line)
