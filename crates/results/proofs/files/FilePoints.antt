-- Document 01, Known points: the rows of the files and the blend, (a) to (c) and (g) to (i). The
-- rows (b) and (c) follow from laws over all such files (`cut_short`, `last_wrong` of Marks).
-- Assumes nothing.
use Rattle.std.proofs.Common.{◌≡◌, refl, sym, ap, ◌∙◌, List, [], ◌∷◌, ◌++◌, append-nil, ℕ, ◌+◌, arith, lit<, lit≤, length, take, replicate}
use lib.Ieee.{round, add, sub, mul, div}
use Rattle.base.specs.Refusal.{verdict_report}
use Rattle.base.specs.Single.{decimal}
use Rattle.base.specs.Words.{word_at}
use Rattle.base.specs.MonthFile.{sizes, month_file_check, MarkedToLast}
use Rattle.base.specs.Blend.{blend_of, f2_weights, e_weights, height_weights}
use Rattle.base.specs.Words.{four_bytes}
use Rattle.results.specs.ExhibitedFiles.{file_of, ending_in, cut_file, wrong_file}
use Rattle.base.proofs.layout.Walks.{no_open}
use Rattle.results.proofs.files.Marks.{cut_short, last_wrong}
use Rattle.results.proofs.files.MadeFiles.{word_in, length_file, length_front, marked}

-- ---- the files of (b) and (c)

module _ (l : List ℕ) where
  ending_marks : MarkedToLast (ending_in l)
  unfolding ending_in
  ending_marks =
      record {
        eight = marked _ [] 0 (take 8 sizes) (four_bytes 1584 ++ (replicate 1584 0 ++ l)) refl refl;
        ninth =
            word_in _ (file_of (take 8 sizes)) 36960 1584 (replicate 1584 0 ++ l) refl (sym (length_file (take 8 sizes)));
      }

  ending_length : length (ending_in l) ≡ 38548 + length l
  unfolding ending_in
  ending_length =
      let a = length_front (file_of (take 8 sizes)) 1584 l in
      let b = length_file (take 8 sizes) in
      omega arith

  ending_word : (n : ℕ) → l ≡ four_bytes n ++ [] → word_at (ending_in l) 38548 ≡ n
  unfolding ending_in
  ending_word n e =
      word_in _ (file_of (take 8 sizes) ++ (four_bytes 1584 ++ (replicate 1584 0 ++ []))) 38548 n []
      (ap (λ (x : List ℕ). file_of (take 8 sizes) ++ (four_bytes 1584 ++ (replicate 1584 0 ++ x))) e ∙ simp append-nil)
      (let a = length_front (file_of (take 8 sizes)) 1584 [] in let b = length_file (take 8 sizes) in omega arith)

-- ---- the rows

-- (a)
pub empty_file : verdict_report (month_file_check []) ≡ (9, 0)
unfolding month_file_check
empty_file = ap verdict_report (no_open [] 0 240 _ refl refl (lit≤ tt) (lit< tt))

-- (b)
pub cut_file_law : verdict_report (month_file_check cut_file) ≡ (9, 38548)
cut_file_law = ap verdict_report (cut_short cut_file (ending_marks _) (ending_length _))

-- (c)
pub wrong_file_law : verdict_report (month_file_check wrong_file) ≡ (10, 38548)
wrong_file_law =
    let w : word_at wrong_file 38548 ≡ 0 = ending_word _ 0 refl in
    ap verdict_report
    (last_wrong wrong_file (ending_marks _) (omega (arith, ending_length (0 ∷ 0 ∷ 0 ∷ 0 ∷ []))) (λ e. omega arith))

-- (g)
pub f2_blend : blend_of (f2_weights (decimal 50 0)) (decimal 1 0) (decimal 2 0) ≡ decimal 15 1
unfolding f2_weights decimal round add sub mul div
f2_blend = refl

-- (h)
pub e_blend : blend_of (e_weights (decimal 80 0)) (decimal 1 0) (decimal 2 0) ≡ decimal 15 1
unfolding e_weights decimal round add sub mul div
e_blend = refl

-- (i)
pub height_blend : blend_of (height_weights (decimal 75 0)) (decimal 1 0) (decimal 2 0) ≡ decimal 15 1
unfolding height_weights decimal round add sub mul div
height_blend = refl
