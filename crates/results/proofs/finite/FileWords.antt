-- What finite words of files give: an accepted showing's files have no others, and what is read of a
-- month file beside the maps is no NaN; a blend can still overflow to one. Assumes nothing.
use Rattle.std.proofs.Common.{Ok, ◌≡◌, refl, sym, subst, not, List, ℕ, ◌+◌, ◌*◌, ◌≤◌, ◌<◌, T, lit≤, lit<, Float}
use lib.Ieee.{nan, binary32, round, units, odd, of_bits, add, sub, mul, div, neg, is_nan}
use lib.Ieee.Scale.{finite}
use Rattle.base.specs.Single.{decimal}
use Rattle.base.specs.Ranges.{is_to}
use Rattle.base.specs.Words.{float_at}
use Rattle.base.specs.Tables.{start_of, words_of, anew, bnew, achi, bchi, fakmap, abmap}
use Rattle.base.specs.Blend.{f2_weights, fakmap_of}
use Rattle.base.specs.Finite.{FiniteMonth}
use Rattle.base.proofs.lists.Fills.{run_at}
use Rattle.base.proofs.layout.Readers.{files_record_finite, files_finite}
use Rattle.maps.specs.Layers.{term_of, abmap_at, monthly_of}
use Rattle.worksheet.specs.declared.desks.Worksheet.{Worksheet}
use Rattle.worksheet.specs.Showing.{Source, inputs_shown}
use Rattle.worksheet.specs.Journal.{show, shown, step}
use Rattle.results.specs.FiniteOrNot.{FiniteFiles, MonthNumbers, BlendOverflows}
use Rattle.results.proofs.finite.ExpNumbers.{mul_number, add_number}
use Rattle.results.proofs.finite.FiniteSheets.{ranged_finite}
use Rattle.results.proofs.force.Insured.{shown_figures}

pub shown_finite :
    (source : Source) (w : Worksheet) (n : ℕ) (lent figures : List Float) (count : ℕ) →
    (step source (show n lent) w).answer ≡ shown (Ok count) figures →
    let i = inputs_shown n w in FiniteFiles (source i).f2 (source i).file
shown_finite source w n lent figures count h =
    let i = inputs_shown n w in
    let f = shown_figures source n w lent figures count (sym h) in
    record {
      in_record_law = files_record_finite (source i).f2 (source i).file f.checked;
      in_month_law = files_finite (source i).f2 (source i).file f.checked;
    }

module _ (file : List ℕ) (month : ℕ) (ssn : Float) (words : FiniteMonth file) (r : T (is_to (decimal 0 1) (decimal 300 0) ssn)) where
  word : (table i : ℕ) → 2 ≤ table → table ≤ 20 → i < words_of table → T (finite (float_at file (start_of table + 4 * i)))
  word table i l h n = words.words table l h i n

  ssn_finite : T (finite ssn)
  unfolding decimal round
  ssn_finite = ranged_finite (decimal 0 1) (decimal 300 0) ssn tt tt r

  sum : (a b i : ℕ) → 2 ≤ a → a ≤ 20 → i < words_of a → 2 ≤ b → b ≤ 20 → i < words_of b → T (not (is_nan (term_of file a b i ssn)))
  unfolding term_of
  sum a b i al ah an bl bh bn =
      add_number binary32 (float_at file (start_of a + 4 * i)) _ (word a i al ah an)
      (mul_number binary32 (float_at file (start_of b + 4 * i)) ssn (word b i bl bh bn) ssn_finite)

  ab : (c i : ℕ) → c * 2 + i < 6 → T (finite (abmap_at file c i))
  unfolding abmap_at
  ab c i h = word abmap (c * 2 + i) (lit≤ tt) (lit≤ tt) h

  pub month_numbers : MonthNumbers file (monthly_of file month ssn)
  unfolding monthly_of fakmap_of
  month_numbers = record {
    land_map = λ k h.
        subst (λ (x : Float). T (finite x)) (sym (run_at (λ i. float_at file (start_of fakmap + 4 * i)) (words_of fakmap) k nan h))
        (word fakmap k (lit≤ tt) (lit≤ tt) h);
    land_alf = ab 0 0 (lit< tt);
    land_bet = ab 0 1 (lit< tt);
    ratio_alf = ab 1 0 (lit< tt);
    ratio_bet = ab 1 1 (lit< tt);
    chi0 = sum achi bchi 0 (lit≤ tt) (lit≤ tt) (lit< tt) (lit≤ tt) (lit≤ tt) (lit< tt);
    chi1 = sum achi bchi 1 (lit≤ tt) (lit≤ tt) (lit< tt) (lit≤ tt) (lit≤ tt) (lit< tt);
    new0 = sum anew bnew 0 (lit≤ tt) (lit≤ tt) (lit< tt) (lit≤ tt) (lit≤ tt) (lit< tt);
    new1 = sum anew bnew 1 (lit≤ tt) (lit≤ tt) (lit< tt) (lit≤ tt) (lit≤ tt) (lit< tt);
    new2 = sum anew bnew 2 (lit≤ tt) (lit≤ tt) (lit< tt) (lit≤ tt) (lit≤ tt) (lit< tt);
  }

pub blend_overflows : BlendOverflows
unfolding f2_weights decimal round of_bits add sub mul div neg units odd
blend_overflows = (tt, refl)
