-- The names of words: a word is found by its letters, and what begins with no small letter is none.
-- Assumes nothing.
use Rattle.std.proofs.Common.{◌≡◌, refl, ap, ◌∙◌, Bool, true, false, ◌&&◌, List, [], ◌∷◌, ℕ, ◌<◌, ◌≤◌, leb, get_or, Some, None, arith, ne_eqb, leb-true}
use Rattle.std.specs.List.{slice_get, find}
use Rattle.std.specs.Str.{bytes_eq}
use Rattle.base.proofs.verdicts.Picks.{cond_false}
use Rattle.worksheet.proofs.drafts.Effects.{both_true}
use Rattle.wording.specs.declared.token.Word.{Word}
use Rattle.wording.specs.Token.{ascii, name_of, words, word_named}

differs : (name w : List ℕ) → 97 ≤ get_or name 0 0 → get_or w 0 32 < 97 → bytes_eq name w ≡ false
differs [] w h c = absurd (omega arith)
differs (x ∷ name) [] h c = refl
differs (x ∷ name) (y ∷ w) h c = ap (λ (b : Bool). b && bytes_eq name w) (ne_eqb x y (λ e. omega arith))

-- whether each of them does
abbrev small : List Word → Bool
small [] = true
small (x ∷ l) = leb 97 (get_or (ascii (name_of x)) 0 0) && small l

none_of : (l : List Word) (w : List ℕ) → small l ≡ true → get_or w 0 32 < 97 → find (λ x. bytes_eq (ascii (name_of x)) w) l ≡ None
none_of [] w s h = refl
none_of (x ∷ l) w s h =
    let b = both_true (leb 97 (get_or (ascii (name_of x)) 0 0)) (small l) s in
    cond_false _ _ (differs (ascii (name_of x)) w (leb-true _ _ b.0) h) ∙ none_of l w b.1 h

no_name : (w : List ℕ) → get_or w 0 32 < 97 → word_named w ≡ None
unfolding word_named
no_name w h = none_of words w refl h

-- by the first letter, o, where there is one
pub no_letter : (w : List ℕ) → None ≡ slice_get w 0 → word_named w ≡ None
no_letter [] e = no_name [] (omega arith)
no_letter (x ∷ w) e = cc

pub no_small : (w : List ℕ) (x : ℕ) → Some x ≡ slice_get w 0 → x < 97 → word_named w ≡ None
no_small [] x e h = cc
no_small (y ∷ w) x e h = let q : x ≡ y = cc in no_name (y ∷ w) (omega arith)
