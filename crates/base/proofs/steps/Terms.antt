-- The coefficients of the series are the fractions of document 01, by computation over all five
-- tables at once (`tied`), and `horner` as a fold
-- from the highest term down. Assumes nothing.
use Rattle.std.proofs.Common.{◌≡◌, ℕ, List, [], ◌∷◌, ◌++◌, map, reverse, fold, length, get_or, refl, ap, ◌∙◌, arith, Float}
use mathlib.Core.List.{reverse-cons}
use Rattle.std.proofs.lemmas.List.Sums.{fold-append}
use lib.Ieee.{binary64, round, of_bits}
use Rattle.base.specs.Double.{fraction}
use Rattle.base.specs.Elementary.{horner, turn, factorial, up_from, alternating, sin_terms, cos_terms, atan_terms, exp_terms, ln_terms}

-- ---- the source's tables, as bit patterns
abbrev SIN : List ℕ
SIN = 0x3ff0000000000000 ∷ 0xbfc5555555555555 ∷ 0x3f81111111111111 ∷ 0xbf2a01a01a01a01a ∷ 0x3ec71de3a556c734 ∷ 0xbe5ae64567f544e4 ∷ 0x3de6124613a86d09 ∷ 0xbd6ae7f3e733b81f ∷ []

abbrev COS : List ℕ
COS = 0x3ff0000000000000 ∷ 0xbfe0000000000000 ∷ 0x3fa5555555555555 ∷ 0xbf56c16c16c16c17 ∷ 0x3efa01a01a01a01a ∷ 0xbe927e4fb7789f5c ∷ 0x3e21eed8eff8d898 ∷ 0xbda93974a8c07c9d ∷ 0x3d2ae7f3e733b81f ∷ []

abbrev ATAN : List ℕ
ATAN = 0x3ff0000000000000 ∷ 0xbfd5555555555555 ∷ 0x3fc999999999999a ∷ 0xbfc2492492492492 ∷ 0x3fbc71c71c71c71c ∷ 0xbfb745d1745d1746 ∷ 0x3fb3b13b13b13b14 ∷ []

abbrev EXP : List ℕ
EXP = 0x3ff0000000000000 ∷ 0x3ff0000000000000 ∷ 0x3fe0000000000000 ∷ 0x3fc5555555555555 ∷ 0x3fa5555555555555 ∷ 0x3f81111111111111 ∷ 0x3f56c16c16c16c17 ∷ 0x3f2a01a01a01a01a ∷ 0x3efa01a01a01a01a ∷ 0x3ec71de3a556c734 ∷ 0x3e927e4fb7789f5c ∷ 0x3e5ae64567f544e4 ∷ 0x3e21eed8eff8d898 ∷ 0x3de6124613a86d09 ∷ []

abbrev LN : List ℕ
LN = 0x3ff0000000000000 ∷ 0x3fd5555555555555 ∷ 0x3fc999999999999a ∷ 0x3fc2492492492492 ∷ 0x3fbc71c71c71c71c ∷ 0x3fb745d1745d1746 ∷ 0x3fb3b13b13b13b14 ∷ 0x3fb1111111111111 ∷ 0x3fae1e1e1e1e1e1e ∷ 0x3faaf286bca1af28 ∷ 0x3fa8618618618618 ∷ 0x3fa642c8590b2164 ∷ 0x3fa47ae147ae147b ∷ 0x3fa2f684bda12f68 ∷ 0x3fa1a7b9611a7b96 ∷ 0x3fa0842108421084 ∷ []

abbrev table : List ℕ → List Float
table b = map (of_bits binary64) b

pub tied : map table (SIN ∷ COS ∷ ATAN ∷ EXP ∷ LN ∷ []) ≡ sin_terms ∷ cos_terms ∷ atan_terms ∷ exp_terms ∷ ln_terms ∷ []
unfolding sin_terms cos_terms atan_terms exp_terms ln_terms factorial up_from alternating fraction round of_bits
tied = refl

abbrev nth : ℕ → List (List Float) → List Float
nth k l = get_or l k []

pub sin_tied : table SIN ≡ sin_terms
sin_tied = ap (nth 0) tied

pub cos_tied : table COS ≡ cos_terms
cos_tied = ap (nth 1) tied

pub atan_tied : table ATAN ≡ atan_terms
atan_tied = ap (nth 2) tied

pub exp_tied : table EXP ≡ exp_terms
exp_tied = ap (nth 3) tied

pub ln_tied : table LN ≡ ln_terms
ln_tied = ap (nth 4) tied

-- ---- from the highest term down
pub horner_none : (t : List Float) (x : Float) → length t ≡ 0 → of_bits binary64 0 ≡ horner t x
unfolding horner of_bits
horner_none [] x e = refl
horner_none (c ∷ cs) x e = absurd (omega arith)

-- the lowest term is added last
horner_first : (cs : List Float) (c l x : Float) → turn x (horner (cs ++ (l ∷ [])) x) c ≡ horner (c ∷ (cs ++ (l ∷ []))) x
unfolding horner
horner_first [] c l x = refl
horner_first (d ∷ cs) c l x = refl

pub horner_fold : (cs : List Float) (l x : Float) → fold (turn x) l (reverse cs) ≡ horner (cs ++ (l ∷ [])) x
unfolding horner
horner_fold [] l x = refl
horner_fold (c ∷ cs) l x =
    ap (λ (r : List Float). fold (turn x) l r) (reverse-cons c cs)
    ∙ fold-append (turn x) l (reverse cs) (c ∷ [])
    ∙ ap (λ (s : Float). turn x s c) (horner_fold cs l x)
    ∙ horner_first cs c l x
