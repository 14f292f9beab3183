-- What a journal's lines told, with one line more and with all that follow it: by the lines in their
-- order. Assumes nothing.
use Rattle.std.proofs.Common.{ℕ, suc, ◌+◌, ◌<◌, ◌≤◌, List, [], ◌∷◌, ◌++◌, ◌≡◌, refl, sym, ap, ◌∙◌, arith, add-zero, add-one, length, get_or, take, length-take, take-suc, take_all}
use Rattle.wording.specs.Line.{line_in}
use Rattle.auditing.specs.Gathered.{text_lines, Told, waiting, telling, told_from, told_by}

told_both :
    (n : ℕ) (t : Told) (ls ms : List (List ℕ)) → told_from n t (ls ++ ms) ≡ told_from (n + length ls) (told_from n t ls) ms
unfolding told_from
told_both n t [] ms = sym (ap (λ (i : ℕ). told_from i t ms) (add-zero n))
told_both n t (l ∷ ls) ms =
    let place : suc n + length ls ≡ n + suc (length ls) = omega arith in
    told_both (suc n) (telling n t (line_in l)) ls ms
    ∙ ap (λ (i : ℕ). told_from i (told_from (suc n) (telling n t (line_in l)) ls) ms) place

told_one : (n : ℕ) (t : Told) (l : List ℕ) → told_from n t (l ∷ []) ≡ telling n t (line_in l)
unfolding told_from
told_one n t l = refl

-- ---- the first lines of a text

pub told_none : (text : List ℕ) → told_by text 0 ≡ waiting
unfolding told_by told_from
told_none text = refl

-- one line more
pub told_next :
    (text : List ℕ) (n : ℕ) → n < length (text_lines text) →
    told_by text (n + 1) ≡ telling (n + 1) (told_by text n) (line_in (get_or (text_lines text) n []))
unfolding told_by
told_next text n h =
    let ls = text_lines text in
    let l = get_or ls n [] in
    let size = length-take n ls in
    let place : 1 + length (take n ls) ≡ n + 1 = omega arith in
    ap (λ (i : ℕ). told_from 1 waiting (take i ls)) (add-one n)
    ∙ ap (told_from 1 waiting) (take-suc ls n [] h)
    ∙ told_both 1 waiting (take n ls) (l ∷ [])
    ∙ told_one (1 + length (take n ls)) (told_from 1 waiting (take n ls)) l
    ∙ ap (λ (i : ℕ). telling i (told_from 1 waiting (take n ls)) (line_in l)) place

-- there are no more
pub told_all :
    (text : List ℕ) (n k : ℕ) → length (text_lines text) ≤ n → n ≤ k → told_by text k ≡ told_by text n
unfolding told_by
told_all text n k h q =
    let ls = text_lines text in
    ap (told_from 1 waiting) (take_all k ls (omega arith) ∙ sym (take_all n ls h))
