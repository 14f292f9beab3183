-- Of files that are packed all months and models can be shown exactly where each passes its check: a
-- part is handed back as it was put in, and nothing else is looked at. Assumes nothing.
use Rattle.std.proofs.Common.{Ok, true, List, [], ◌≡◌, refl, sym, ap, subst, ◌∙◌, ℕ, zero, suc, ◌+◌, ◌-◌, ◌*◌, ◌≤◌, ◌<◌, arith, T, leb, lit≤, length, get_or, le-leb, le-ltb, lt-ltb, leb-true}
use native.Mathlib.Decide.{dec_lt}
use Rattle.base.specs.declared.refusal.Refusal.TheVariants.{Record}
use Rattle.base.specs.Refusal.{Verdict}
use Rattle.base.specs.Refusal.{refuse_unless, ◌then◌}
use Rattle.base.specs.Ranges.{is_month, is_bit}
use Rattle.base.specs.MonthFile.{record_size, month_record_check, month_file_check}
use Rattle.base.specs.Finite.{record_words_check, table_words_check}
use Rattle.base.specs.Index.{index_check}
use Rattle.base.specs.Files.{index_file_check, file_check, daw_check}
use Rattle.packing.specs.Pack.{part_check, packed}
use Rattle.base.proofs.verdicts.Picks.{cond_true, cond_false}
use Rattle.base.proofs.verdicts.Refusals.{then_both, passed}
use Rattle.base.proofs.layout.Records.{month_known as record-known}
use Rattle.base.proofs.layout.Readers.{file_index, file_indexed, file_finite}
use Rattle.base.proofs.layout.FirstWords.{finite_tables}
use Rattle.base.proofs.layout.Directories.{month_known, bit_known}
use Rattle.worksheet.specs.Showing.{year_files_check}
use Rattle.results.specs.OneYear.{part_at, AllShown}
use Rattle.results.proofs.files.MonthRecords.{month_there}
use Rattle.results.proofs.files.RecordWords.{record_of, record_in, all_in}
use Rattle.results.proofs.files.PackedYear.{packed_accepted, packed_parts}
use Rattle.results.proofs.sheet.OwnParts.{part_bytes_law, month_is}
use Rattle.results.proofs.sheet.YearExactly.{is_true, in_range_exactly}

bit_is : (m : ℕ) → m ≤ 1 → is_bit m ≡ true
bit_is zero h = refl
bit_is (suc zero) h = refl
bit_is (suc (suc m)) h = absurd (omega arith)

-- 9 and 10, 23 and 11 by a model's file and a month's
abbrev rest_check : ℕ → List ℕ → List ℕ → Verdict
rest_check month daw file =
    month_file_check file then record_words_check (record_of daw month) 1 then table_words_check file then index_check file

-- 8 by a model's file
abbrev room_check : ℕ → List ℕ → Verdict
room_check month daw = refuse_unless (leb (month * record_size) (length daw)) Record

module _ (ps : List (List ℕ)) (n : length ps ≡ 14) where
  part : (k : ℕ) → k < 14 → part_at (packed ps) k ≡ get_or ps k []
  part k h = sym (part_bytes_law (packed ps) (packed_accepted ps n) k h) ∙ packed_parts ps n k h

  -- a month and a model are refused by their own two files
  by_files : (month model : ℕ) → is_month month ≡ true → is_bit model ≡ true →
      year_files_check (packed ps) month model
      ≡ (room_check month (get_or ps (12 + model) []) then rest_check month (get_or ps (12 + model) []) (get_or ps (month - 1) []))
  by_files month model m b =
      let e = month_known month m in
      let low = e.0 in
      let high = e.1 in
      let bit = bit_known model b in
      let daw = part (12 + model) (omega arith) in
      let file = part (month - 1) (omega arith) in
      in_range_exactly (packed ps) month model m b
      ∙ (λ i. packed_accepted ps n i then room_check month (daw i) then rest_check month (daw i) (file i))

  pub all_shown : ((k : ℕ) → k < 14 → part_check k (get_or ps k []) ≡ Ok tt) → AllShown (packed ps)
  unfolding part_check daw_check index_file_check
  all_shown good month model t u =
      let m = is_true (is_month month) t in
      let b = is_true (is_bit model) u in
      let e = month_known month m in
      let low = e.0 in
      let high = e.1 in
      let bit = bit_known model b in
      let daw = get_or ps (12 + model) [] in
      let file = sym (cond_true _ _ (lt-ltb (month - 1) 12 (omega arith))) ∙ good (month - 1) (omega arith) in
      let twelve = sym (cond_false _ _ (le-ltb (12 + model) 12 (omega arith))) ∙ good (12 + model) (omega arith) in
      let d = then_both (month_record_check daw 12) (record_words_check daw 12) twelve in
      let room = (record-known daw 12 d.0).room in
      let part = get_or ps (month - 1) [] in
      let walk = (then_both (month_file_check part) (index_check part) (file_indexed part file)).0 in
      let words = record_in daw d.1 month low high in
      let tables = finite_tables part (file_finite part file) in
      let index = file_index part file in
      let has : room_check month daw ≡ Ok tt = cond_true _ _ (le-leb (month * record_size) (length daw) (omega arith)) in
      by_files month model m b ∙ (λ i. has i then walk i then words i then tables i then index i)

  -- what is accepted of a month and a model that can be shown
  record Seen (month model : ℕ) : Type 0 where
    room : month * record_size ≤ length (get_or ps (12 + model) [])
    words : record_words_check (record_of (get_or ps (12 + model) []) month) 1 ≡ Ok tt
    file : file_check (get_or ps (month - 1) []) ≡ Ok tt

  seen : AllShown (packed ps) → (month model : ℕ) → is_month month ≡ true → is_bit model ≡ true → Seen month model
  unfolding file_check
  seen all month model m b =
      let daw = get_or ps (12 + model) [] in
      let part = get_or ps (month - 1) [] in
      let shown = sym (by_files month model m b) ∙ all month model (subst T (sym m) tt) (subst T (sym b) tt) in
      let x = then_both (room_check month daw) (rest_check month daw part) shown in
      let w = then_both (month_file_check part) (record_words_check (record_of daw month) 1 then table_words_check part then index_check part) x.1 in
      let r = then_both (record_words_check (record_of daw month) 1) (table_words_check part then index_check part) w.1 in
      record {
        room =
            leb-true (month * record_size) (length daw)
            (passed (leb (month * record_size) (length daw)) Record x.0);
        words = r.0;
        file = λ i. w.0 i then r.1 i;
      }

  pub each_good : AllShown (packed ps) → (k : ℕ) → k < 14 → part_check k (get_or ps k []) ≡ Ok tt
  unfolding part_check daw_check
  each_good all k h = elim (dec_lt k 12) [
    | yes l ↦
        let e : k + 1 - 1 ≡ k = omega arith in
        let x = seen all (k + 1) 0 (month_is (k + 1) (omega arith) (omega arith)) refl in
        cond_true _ _ (lt-ltb k 12 l) ∙ ap (λ (j : ℕ). file_check (get_or ps j [])) (sym e) ∙ x.file
    | no g ↦
        let b = bit_is (k - 12) (omega (arith, g)) in
        let e : 12 + (k - 12) ≡ k = omega (arith, g) in
        let daw = get_or ps (12 + (k - 12)) [] in
        let whole =
        month_there daw 12
        (record { low = lit≤ tt; high = lit≤ tt; room = (seen all 12 (k - 12) refl b).room }) in
        let words = all_in daw (λ m low high. (seen all m (k - 12) (month_is m low high) b).words) in
        cond_false _ _ (le-ltb k 12 (omega (arith, g)))
        ∙ ap (λ (j : ℕ). month_record_check (get_or ps j []) 12 then record_words_check (get_or ps j []) 12) (sym e)
        ∙ (λ i. whole i then words i)
  ]
