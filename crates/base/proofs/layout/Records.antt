-- The month record: what is known where it is not refused, and a part that is lent. Assumes
-- nothing.
use Rattle.std.proofs.Common.{◌≡◌, ℕ, ◌+◌, ◌-◌, ◌*◌, ◌≤◌, Bool, true, false, ◌&&◌, leb, List, length, take, drop, sym, refl, ap, ◌∙◌, arith, Bor, leb-true, Err, Ok}
use borrow.Rule.Slice.PartAt.{sl_partˢ}
use Rattle.base.specs.declared.refusal.Refusal.{Refusal}
use Rattle.base.specs.declared.refusal.Refusal.TheVariants.{Month, Record}
use Rattle.base.specs.Refusal.{Verdict}
use Rattle.base.specs.Refusal.{refuse_unless, ◌then◌, is_accepted}
use Rattle.base.specs.Ranges.{month_check}
use Rattle.base.specs.MonthFile.{record_size, Part, IsPart, empty_part, month_record_check, month_start, month_part}
use Rattle.base.proofs.verdicts.Picks.{cond_true, cond_false}
use Rattle.base.proofs.verdicts.Refusals.{refused_not_accepted}

pub record MonthThere (s : List ℕ) (m : ℕ) : Type 0 where
  pub low : 1 ≤ m
  pub high : m ≤ 12
  pub room : m * record_size ≤ length s

-- what an accepted record has
pub month_known : (s : List ℕ) (m : ℕ) → month_record_check s m ≡ Ok tt → MonthThere s m
unfolding month_record_check month_check
month_known s m e = go (leb 1 m) (leb m 12) (leb (m * record_size) (length s)) (leb-true 1 m) (leb-true m 12) (leb-true (m * record_size) (length s)) e
  where
    go :
        (a b c : Bool) → (a ≡ true → 1 ≤ m) → (b ≡ true → m ≤ 12) → (c ≡ true → m * record_size ≤ length s) →
        (refuse_unless (a && b) Month then refuse_unless c Record) ≡ Ok tt → MonthThere s m
    go true true true f g h e = record { low = f refl; high = g refl; room = h refl }
    go true true false f g h e = refused_not_accepted e
    go true false c f g h e = refused_not_accepted e
    go false b c f g h e = refused_not_accepted e

module _ (s : List ℕ) (m : ℕ) {v : Verdict} (e : v ≡ month_record_check s m) where
  pub month_part_law : v ≡ Ok tt → month_part s m ≡ record { from = month_start m; size = record_size }
  unfolding month_part
  month_part_law z = cond_true _ _ (ap is_accepted (sym e ∙ z))

  pub month_none : {why : Refusal} → v ≡ Err why → month_part s m ≡ empty_part
  unfolding month_part
  month_none z = cond_false _ _ (ap is_accepted (sym e ∙ z))

-- `&s[a..e]` is the part of e - a bytes from a on
pub part_of :
    (x : Bor (List ℕ)) (a e : ℕ) (p : Part) → p.from ≡ a → p.size ≡ e - a → IsPart p x (sl_partˢ x (a + x.ref_ptr.1) a e)
part_of x a e p f z =
    record {
      bytes = sym (ap (λ (n : ℕ). take n (drop p.from x.now)) z ∙ ap (λ (n : ℕ). take (e - a) (drop n x.now)) f);
      block = refl;
      start = omega arith;
    }
