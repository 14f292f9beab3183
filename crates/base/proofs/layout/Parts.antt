-- Table: what is refused, what is known where nothing is, and that the part handed back lies in the
-- file that holds it, by one test over all the places. Assumes nothing.
use Rattle.std.proofs.Common.{◌≡◌, ℕ, ◌+◌, ◌*◌, ◌<◌, ◌≤◌, Bool, true, false, cond, leb, List, map, length, get_or, sym, refl, ap, ◌∙◌, arith, leb→le, Bor, eq-eqb, ne_eqb, le-leb, leb-true, Err, Ok}
use native.Mathlib.Decide.{dec_lt}
use lib.ListN.{get_or-map, get_or-eq_default}
use borrow.Author.Tests.{lt-leb}
use Rattle.base.specs.declared.refusal.Refusal.{Refusal}
use Rattle.base.specs.declared.refusal.Refusal.TheVariants.{Record, Table as NoTable}
use Rattle.base.specs.Refusal.{Verdict}
use Rattle.base.specs.Refusal.{verdict_report, is_accepted}
use Rattle.base.specs.MonthFile.{record_size, month_file_size, Part, empty_part, month_file_check}
use Rattle.base.specs.Tables.{Table, words_in, table_end, numbered, no_such_table, bytes_in, part_of, table_check, table_part, table_file}
use Rattle.base.proofs.lists.Entries.{at as entry}
use Rattle.base.proofs.verdicts.Picks.{cond_true, cond_false}
use Rattle.base.proofs.verdicts.Refusals.{refused_not_accepted}
use Rattle.base.proofs.verdicts.Refusals.{accepted_by_number}
use Rattle.base.proofs.layout.Walks.{accepted_length}

-- ---- what is refused

module _ (k : ℕ) (f m : List ℕ) where
  pub table_high : 20 < k → table_check k f m ≡ Err NoTable
  unfolding table_check
  table_high h = cond_false _ _ (lt-leb k 20 h)

  pub table_short : k ≤ 20 → length f < record_size → table_check k f m ≡ Err Record
  unfolding table_check
  table_short a h = cond_true _ _ (le-leb k 20 a) ∙ cond_false _ _ (lt-leb record_size (length f) h)

  pub table_walk : k ≤ 20 → record_size ≤ length f → table_check k f m ≡ month_file_check m
  unfolding table_check
  table_walk a h = cond_true _ _ (le-leb k 20 a) ∙ cond_true _ _ (le-leb record_size (length f) h)

-- a table that is handed back
pub record TableThere (k : ℕ) (f m : List ℕ) : Type 0 where
  pub known : k ≤ 20
  pub planes : record_size ≤ length f
  pub walked : month_file_check m ≡ Ok tt

module _ (k : ℕ) (f m : List ℕ) where
  pub table_known : table_check k f m ≡ Ok tt → TableThere k f m
  unfolding table_check
  table_known e = go (leb k 20) (leb record_size (length f)) (leb-true k 20) (leb-true record_size (length f)) e
    where
      go :
          (a b : Bool) → (a ≡ true → k ≤ 20) → (b ≡ true → record_size ≤ length f) →
          cond a (cond b (month_file_check m) (Err Record)) (Err NoTable) ≡ Ok tt → TableThere k f m
      go true true p q e = record { known = p refl; planes = q refl; walked = e }
      go true false p q e = refused_not_accepted e
      go false b p q e = refused_not_accepted e

  pub table_there : TableThere k f m → table_check k f m ≡ Ok tt
  table_there t = table_walk k f m t.known t.planes ∙ t.walked

  -- 'it gives 0 and 0 exactly when nothing is refused'
  pub zero_there : verdict_report (table_check k f m) ≡ (0, 0) → TableThere k f m
  zero_there e = table_known (accepted_by_number _ (ap (λ (p : ℕ × ℕ). p.0) e))

  pub there_zero : TableThere k f m → verdict_report (table_check k f m) ≡ (0, 0)
  there_zero t = ap verdict_report (table_there t)

-- ---- the places

abbrev ends : List ℕ
ends = map table_end numbered

abbrev bytes : List ℕ
bytes = map (λ (t : Table). 4 * words_in t) numbered

ends_within : ℕ → ℕ → Bool
ends_within k e = leb e month_file_size

some_bytes : ℕ → ℕ → Bool
some_bytes k n = leb 8 n

-- a table's part is in the first 38,552 bytes, of number 0 in the first 7,904, and no table is
-- empty
pub record Placed (k : ℕ) : Type 0 where
  pub inside : (part_of k).from + (part_of k).size ≤ month_file_size
  pub planes : k ≡ 0 → (part_of k).from + (part_of k).size ≤ record_size
  pub some : 8 ≤ (part_of k).size

pub placed : (k : ℕ) → k ≤ 20 → Placed k
unfolding part_of ends_within some_bytes
placed k h =
    let e : get_or ends k 0 ≡ (part_of k).from + (part_of k).size = get_or-map table_end numbered k no_such_table in
    let z : get_or bytes k 0 ≡ (part_of k).size = get_or-map (λ (t : Table). 4 * words_in t) numbered k no_such_table in
    let i : get_or ends k 0 ≤ month_file_size = leb→le (get_or ends k 0) month_file_size (entry ends_within ends tt k (omega arith)) in
    let n : 8 ≤ get_or bytes k 0 = leb→le 8 (get_or bytes k 0) (entry some_bytes bytes tt k (omega arith)) in
    record {
      inside = omega arith;
      planes = λ q. let o : (part_of k).from + (part_of k).size ≡ record_size = ap (λ (j : ℕ). (part_of j).from + (part_of j).size) q in omega arith;
      some = omega arith;
    }

pub no_part : (k : ℕ) → 20 < k → part_of k ≡ empty_part
unfolding part_of
no_part k h = ap bytes_in (get_or-eq_default numbered no_such_table {n = k} (omega arith))

-- ---- what is handed back

module _ (k : ℕ) (f m : List ℕ) {v : Verdict} (e : v ≡ table_check k f m) where
  pub table_part_law : v ≡ Ok tt → table_part k f m ≡ part_of k
  unfolding table_part
  table_part_law z = cond_true _ _ (ap is_accepted (sym e ∙ z))

  pub table_none : {why : Refusal} → v ≡ Err why → table_part k f m ≡ empty_part
  unfolding table_part
  table_none z = cond_false _ _ (ap is_accepted (sym e ∙ z))

module _ (k : ℕ) (f m : Bor (List ℕ)) {v : Verdict} (e : v ≡ table_check k f.now m.now) where
  pub file_none : {why : Refusal} → v ≡ Err why → table_file k f m ≡ f
  unfolding table_file
  file_none z = cond_false _ _ (ap is_accepted (sym e ∙ z))

  pub file_f2 : v ≡ Ok tt → k ≡ 0 → table_file k f m ≡ f
  unfolding table_file
  file_f2 z q = cond_true _ _ (ap is_accepted (sym e ∙ z)) ∙ cond_true _ _ (eq-eqb _ _ q)

  pub file_month : v ≡ Ok tt → (k ≡ 0 → ⊥) → table_file k f m ≡ m
  unfolding table_file
  file_month z q = cond_true _ _ (ap is_accepted (sym e ∙ z)) ∙ cond_false _ _ (ne_eqb _ _ q)

-- the part of an accepted call has bytes, and all of them are there in the file that holds it
pub record InFile (p : Part) (s : List ℕ) : Type 0 where
  pub some : 8 ≤ p.size
  pub inside : p.from + p.size ≤ length s

pub table_inside : (k : ℕ) (f m : Bor (List ℕ)) → table_check k f.now m.now ≡ Ok tt → InFile (table_part k f.now m.now) (table_file k f m).now
table_inside k f m e = rw (table_part_law k f.now m.now refl e) (elim (dec_lt 0 k) [
  | yes h ↦ rw (file_month k f m refl e (λ q. omega arith)) (record { some = p.some; inside = omega (arith, p.inside, accepted_length m.now t.walked) })
  | no h ↦ let q : k ≡ 0 = omega arith in rw (file_f2 k f m refl e q) (record { some = p.some; inside = omega (arith, p.planes q, t.planes) })
])
  where
    t : TableThere k f.now m.now
    t = table_known k f.now m.now e

    p : Placed k
    p = placed k t.known
