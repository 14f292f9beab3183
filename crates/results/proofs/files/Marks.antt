-- The month file's check without the walk: it accepts exactly the files that have 38,552 bytes and
-- 18 right markers (`month_file_good`); and document 01's known points (b) and (c) over all such
-- files. The walk passes a record, or is refused in it, at once (Walks). Assumes nothing.
use Rattle.std.proofs.Common.{Err, Ok, ◌≡◌, refl, sym, ap, ◌∙◌, List, [], ◌∷◌, ◌++◌, ℕ, ◌+◌, ◌*◌, ◌/◌, ◌%◌, ◌≤◌, add-zero, arith, length, take}
use Rattle.base.specs.declared.refusal.Refusal.TheVariants.{Ended, Marker}
use Rattle.base.specs.Words.{word_at}
use Rattle.base.specs.MonthFile.{month_file_size, sizes, layout, walk, month_file_check, Marked, WellMarked, MarkedToLast}
use Rattle.results.specs.AcceptedFiles.{with_markers}
use Rattle.base.proofs.layout.Walks.{Fours, fours, no_close, bad_close, passed, accepted_length, accepted_marks}

fours_eight : Fours (take 8 sizes)
fours_eight = (refl, (refl, (refl, (refl, (refl, (refl, (refl, (refl, tt))))))))

-- ---- records with right markers are passed
through :
    (s : List ℕ) (at : ℕ) (ns rest : List ℕ) → Fours ns → at % 4 ≡ 0 → Marked s at ns → at + with_markers ns ≤ length s →
    walk s at (layout (ns ++ rest)) ≡ walk s (at + with_markers ns) (layout rest)
through s at [] rest f m k h = ap (λ (n : ℕ). walk s n (layout rest)) (sym (add-zero at))
through s at (n ∷ ns) rest f m k h =
    let w = f.0 in
    passed s at n (ns ++ rest) m w (omega arith) (omega arith) k.0 (omega arith) k.1
    ∙ through s (at + n + 8) ns rest f.1 (omega arith) k.2 (omega arith)
    ∙ ap (λ (x : ℕ). walk s x (layout rest)) (omega arith)

-- ---- 'nine records, each between two u32 markers of its size, in all 38,552 bytes; later bytes
-- are ignored'

pub done : (s : List ℕ) (at : ℕ) → walk s at (layout []) ≡ Ok tt
unfolding walk layout
done s at = refl

pub month_file_good : (s : List ℕ) → (month_file_check s ≡ Ok tt → WellMarked s) × (WellMarked s → month_file_check s ≡ Ok tt)
unfolding month_file_check
month_file_good s = (
  λ e. record { whole = accepted_length s e; marks = accepted_marks s e },
  λ w. through s 0 sizes [] fours refl w.marks w.whole ∙ done s month_file_size,
)

-- ---- (b) and (c), of every file whose first 17 markers are right

module _ (s : List ℕ) (k : MarkedToLast s) where
  -- '38,551 good bytes: 9 at 38,548'
  pub cut_short : length s ≡ 38551 → month_file_check s ≡ Err (Ended 38548)
  unfolding month_file_check
  cut_short l =
      through s 0 (take 8 sizes) (1584 ∷ []) fours_eight refl k.eight (omega arith)
      ∙ no_close s 36960 1584 [] refl refl (omega arith) (omega arith) k.ninth (omega arith)
      ∙ ap (λ (n : ℕ). Err (Ended (n / 4 * 4))) l

  -- 'last marker wrong: 10 at 38,548'
  pub last_wrong : month_file_size ≤ length s → (word_at s 38548 ≡ 1584 → ⊥) → month_file_check s ≡ Err (Marker 38548)
  unfolding month_file_check
  last_wrong l d =
      through s 0 (take 8 sizes) (1584 ∷ []) fours_eight refl k.eight (omega arith)
      ∙ bad_close s 36960 1584 [] refl refl (omega arith) (omega arith) k.ninth l d
