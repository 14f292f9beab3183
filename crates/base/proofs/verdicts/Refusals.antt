-- No answer is both a refusal and an acceptance, and what follows for two checks and for a test; a
-- check's answer reports 0 exactly when nothing is refused, since every refusal has a number above
-- 0. Assumes nothing.
use Rattle.std.proofs.Common.{◌≡◌, ◌≤◌, Bool, true, false, sym, refl, ap, ◌∙◌, arith, lit≤, Err, Ok}
use Rattle.base.specs.declared.refusal.Refusal.{Refusal}
use Rattle.base.specs.declared.refusal.Refusal.TheVariants.{Month, Sunspot, Hour, Latitude, Longitude, Factor, Flag, Record, Ended, Marker, RecordWord, MonthWord, Index, Figures, Table, Desk, Drafted, NoDraft, Stale, NothingEarlier, Model, Year}
use Rattle.base.specs.Refusal.{Verdict}
use Rattle.base.specs.Refusal.{report_of, verdict_report, is_accepted, refuse_unless, ◌then◌}
use Rattle.base.proofs.verdicts.Picks.{never'}

pub refused_not_accepted : {A : Type 0} {why : Refusal} → (let v : Verdict = Err why in v ≡ Ok tt) → A
refused_not_accepted e = never' (sym (ap is_accepted e))

-- both of two checks accept
pub then_both : (a b : Verdict) → (a then b) ≡ Ok tt → (a ≡ Ok tt) × (b ≡ Ok tt)
then_both (Ok _) b e = (refl, e)
then_both (Err why) b e = refused_not_accepted e

-- a test that is not refused succeeds
pub passed : (b : Bool) (why : Refusal) → refuse_unless b why ≡ Ok tt → b ≡ true
passed true why e = refl
passed false why e = refused_not_accepted e

numbered : (why : Refusal) → 1 ≤ (report_of why).0
numbered Month = lit≤ tt
numbered Sunspot = lit≤ tt
numbered Hour = lit≤ tt
numbered (Latitude field) = lit≤ tt
numbered (Longitude field) = lit≤ tt
numbered (Factor field) = lit≤ tt
numbered Flag = lit≤ tt
numbered Record = lit≤ tt
numbered (Ended at) = lit≤ tt
numbered (Marker at) = lit≤ tt
numbered (RecordWord at) = lit≤ tt
numbered (MonthWord at) = lit≤ tt
numbered (Index map) = lit≤ tt
numbered Figures = lit≤ tt
numbered Table = lit≤ tt
numbered Desk = lit≤ tt
numbered Drafted = lit≤ tt
numbered NoDraft = lit≤ tt
numbered Stale = lit≤ tt
numbered NothingEarlier = lit≤ tt
numbered Model = lit≤ tt
numbered (Year pair) = lit≤ tt

pub accepted_by_number : (v : Verdict) → (verdict_report v).0 ≡ 0 → v ≡ Ok tt
accepted_by_number (Ok _) e = refl
accepted_by_number (Err why) e = let h = numbered why in absurd (omega arith)

-- a verdict by a test that is another test
pub by_test : {v : Verdict} {b b' : Bool} (why : Refusal) → v ≡ refuse_unless b why → b ≡ b' → v ≡ refuse_unless b' why
by_test why p q = p ∙ ap (λ (z : Bool). refuse_unless z why) q
