-- Month record as Table has it: 'it gives 0 and 0 exactly when nothing is refused', and the part
-- handed back is 7,904 bytes inside the lent file. Assumes nothing.
use Rattle.std.proofs.Common.{Ok, ◌≡◌, refl, ap, ◌∙◌, List, ℕ, ◌+◌, ◌*◌, ◌≤◌, arith, leb, length, le-leb}
use Rattle.base.specs.declared.refusal.Refusal.TheVariants.{Month, Record}
use Rattle.base.specs.Refusal.{Verdict}
use Rattle.base.specs.Refusal.{verdict_report, refuse_unless, ◌then◌}
use Rattle.base.specs.Ranges.{is_month, month_check}
use Rattle.base.specs.MonthFile.{record_size, month_record_check, month_part}
use Rattle.base.proofs.verdicts.Picks.{cond_true}
use Rattle.base.proofs.ladder.Ladders.{and_true}
use Rattle.base.proofs.layout.Records.{MonthThere, month_known, month_part_law}
use Rattle.base.proofs.verdicts.Refusals.{accepted_by_number}

module _ (s : List ℕ) (m : ℕ) where
  pub month_there : MonthThere s m → month_record_check s m ≡ Ok tt
  unfolding month_record_check month_check
  month_there t =
      let a : refuse_unless (is_month m) Month ≡ Ok tt = cond_true _ _ (and_true (le-leb 1 m t.low) (le-leb m 12 t.high)) in
      ap (λ (v : Verdict). v then refuse_unless (leb (m * record_size) (length s)) Record) a
      ∙ cond_true _ _ (le-leb (m * record_size) (length s) t.room)

  -- 'it gives 0 and 0 exactly when nothing is refused'
  pub month_zero : (verdict_report (month_record_check s m) ≡ (0, 0) → MonthThere s m) × (MonthThere s m → verdict_report (month_record_check s m) ≡ (0, 0))
  month_zero = (
    λ e. month_known s m (accepted_by_number _ (ap (λ (p : ℕ × ℕ). p.0) e)),
    λ t. ap verdict_report (month_there t),
  )

  -- 'those 7,904 bytes .., a part of the lent file'
  pub month_inside : month_record_check s m ≡ Ok tt → ((month_part s m).size ≡ record_size) × ((month_part s m).from + (month_part s m).size ≤ length s)
  month_inside e =
      let t = month_known s m e in
      let l = t.low in
      let h = t.room in
      rw (month_part_law s m refl e) (refl, omega arith)
