-- Every showing over a year file that gave figures is of one month, one model and their own two
-- parts: the source's verdict is accepted, so that the directory is good, the month is one, and the
-- model's part reaches to the end of its record; no other word than 0 and 1 has a part. Assumes
-- nothing.
use Rattle.std.proofs.Common.{Ok, ◌≡◌, refl, sym, ap, subst, ◌∙◌, Bool, true, false, List, ◌⊎◌, inl, inr, ℕ, ◌+◌, ◌-◌, ◌*◌, ◌≤◌, ◌<◌, arith, length, take, drop, Float, le-leb}
use native.Mathlib.Decide.{dec_lt}
use Rattle.base.specs.Ranges.{is_month, is_bit}
use Rattle.base.specs.MonthFile.{Part, record_size, month_start, month_record_check}
use Rattle.base.specs.Finite.{FiniteRecord}
use Rattle.base.specs.Files.{file_check}
use Rattle.base.specs.Year.{year_check, pair_part, year_month, year_model, part_bytes}
use Rattle.base.proofs.ladder.Ladders.{and_true}
use Rattle.base.proofs.layout.Readers.{files_record_finite, files_file}
use Rattle.base.proofs.verdicts.Refusals.{then_both}
use Rattle.base.proofs.layout.Records.{month_known as record-known, month_part_law}
use Rattle.base.proofs.layout.Directories.{month_known, bit_known, month_part_is, model_part_is, no_model}
use Rattle.maps.specs.declared.inputs.Inputs.{Inputs}
use Rattle.maps.specs.Figures.{sheet_path, figures_of}
use Rattle.worksheet.specs.declared.desks.Worksheet.{Worksheet}
use Rattle.worksheet.specs.Desks.{open_of}
use Rattle.worksheet.specs.Showing.{year_files, year_files_check, yearly, inputs_shown}
use Rattle.worksheet.specs.Journal.{Call, show, shown, step, run}
use Rattle.worksheet.specs.InForce.{FiguresOf}
use Rattle.results.specs.OneYear.{part_at, record_at, OwnParts}
use Rattle.results.proofs.files.YearDirectory.{year_good, parts_inside}
use Rattle.results.proofs.force.Insured.{shown_figures}
use Rattle.results.proofs.sheet.AlwaysShown.{year_shown}

module _ (s : List ℕ) (good : year_check s ≡ Ok tt) where
  -- the bytes of a pair's part
  pub part_bytes_law : (k : ℕ) → k < 14 → part_bytes s (pair_part s k) ≡ part_at s k
  part_bytes_law k h = ap (part_bytes s) (parts_inside s good k h).0

  pub month_bytes : (m : ℕ) → is_month m ≡ true → part_bytes s (year_month s m) ≡ part_at s (m - 1)
  month_bytes m e =
      let h = month_known m e in
      ap (part_bytes s) (month_part_is s m e) ∙ part_bytes_law (m - 1) (omega (arith, h.0, h.1))

  pub model_bytes : (m : ℕ) → is_bit m ≡ true → part_bytes s (year_model s m) ≡ part_at s (12 + m)
  model_bytes m e = ap (part_bytes s) (model_part_is s m e) ∙ part_bytes_law (12 + m) (omega (arith, bit_known m e))

pub month_is : (m : ℕ) → 1 ≤ m → m ≤ 12 → is_month m ≡ true
month_is m l h = and_true (le-leb 1 m l) (le-leb m 12 h)

-- ---- the model's word

-- a word that is no model has no part, and so no record
bit_or_empty : (s : List ℕ) (m : ℕ) (b : Bool) → is_bit m ≡ b → (length (part_bytes s (year_model s m)) ≡ 0) ⊎ (is_bit m ≡ true)
bit_or_empty s m true e = inr e
bit_or_empty s m false e = inl (ap (λ (p : Part). length (part_bytes s p)) (no_model s m e))

is_model : (m : ℕ) → is_bit m ≡ true → (m ≡ 0) ⊎ (m ≡ 1)
is_model m e = elim (dec_lt m 1) [
  | yes l ↦ inl (omega arith)
  | no g ↦ inr (omega (arith, g, bit_known m e))
]

-- ---- figures over a year

module _ (s : List ℕ) (i : Inputs) (count : ℕ) (figures : List Float) where
  pub figures_own_parts : FiguresOf (yearly s) i count figures → OwnParts s i count figures
  unfolding year_files
  figures_own_parts f =
      let daw = part_bytes s (year_model s i.model) in
      let both = then_both (year_check s) (month_record_check daw i.month) f.lent in
      let known = record-known daw i.month both.1 in
      let low = known.low in
      let high = known.high in
      let room = known.room in
      let bit = is_bit_law (bit_or_empty s i.model (is_bit i.model) refl) low room in
      let daw_is : daw ≡ part_at s (12 + i.model) = model_bytes s both.0 i.model bit in
      let file_is = month_bytes s both.0 i.month (month_is i.month low high) in
      let record_is = ap (part_bytes daw) (month_part_law daw i.month refl both.1) in
      record {
        month_low = low;
        month_high = high;
        model = is_model i.model bit;
        directory = (year_good s).0 both.0;
        room = subst (λ (d : List ℕ). i.month * record_size ≤ length d) daw_is room;
        words =
            subst FiniteRecord
            (record_is ∙ ap (λ (d : List ℕ). take record_size (drop (month_start i.month) d)) daw_is)
            (files_record_finite _ _ f.checked);
        file = sym (ap file_check file_is) ∙ files_file _ _ f.checked;
        points = f.points;
        whole =
            f.whole
            ∙ (λ t. figures_of (record_is t) (file_is t) i)
            ∙ ap (λ (d : List ℕ). figures_of (take record_size (drop (month_start i.month) d)) (part_at s (i.month - 1)) i) daw_is;
      }
    where
      is_bit_law : (length (part_bytes s (year_model s i.model)) ≡ 0) ⊎ (is_bit i.model ≡ true) → 1 ≤ i.month
          → i.month * record_size ≤ length (part_bytes s (year_model s i.model)) → is_bit i.model ≡ true
      is_bit_law (inl e) l r = absurd (omega (arith, e, l, r))
      is_bit_law (inr e) l r = e

pub one_month_one_model :
    (s : List ℕ) (w : Worksheet) (n : ℕ) (lent figures : List Float) (count : ℕ) →
    (step (yearly s) (show n lent) w).answer ≡ shown (Ok count) figures → OwnParts s (inputs_shown n w) count figures
one_month_one_model s w n lent figures count h =
    figures_own_parts s (inputs_shown n w) count figures (shown_figures (yearly s) n w lent figures count (sym h))

-- ---- and after every list of calls there is such a showing, where the year file refuses nothing

pub year_always_shown : (s : List ℕ) (opened : Inputs) → (open_of opened).answer ≡ Ok tt →
    (cs : List Call) (lent : List Float) → length lent ≡ 151 →
    let w = (run (yearly s) cs (open_of opened).sheet).sheet in
    let i = w.inputs in
    year_files_check s i.month i.model ≡ Ok tt →
    (step (yearly s) (show 0 lent) w).answer
    ≡ shown (Ok (sheet_path i).count) (figures_of (record_at s i.month i.model) (part_at s (i.month - 1)) i)
unfolding inputs_shown
year_always_shown s opened h cs lent l good =
    let w = (run (yearly s) cs (open_of opened).sheet).sheet in
    let e = year_shown s opened h cs lent l good in
    let own = one_month_one_model s w 0 lent _ _ e in
    e ∙ ap (shown (Ok (sheet_path w.inputs).count)) own.whole
