-- What accepted files have, all their bytes, finite words and a good index table; and what a reader
-- leaves in a lent array. Assumes nothing.
use Rattle.std.proofs.Common.{◌≡◌, ℕ, ◌≤◌, Bool, true, false, cond, leb, List, length, sym, refl, ap, ◌∙◌, leb-true, Err, Ok}
use Rattle.base.specs.declared.refusal.Refusal.{Refusal}
use Rattle.base.specs.declared.refusal.Refusal.TheVariants.{Record}
use Rattle.base.specs.Refusal.{Verdict}
use Rattle.base.specs.Refusal.{◌then◌, written_over}
use Rattle.base.specs.MonthFile.{record_size, month_file_size, month_file_check}
use Rattle.base.specs.Index.{index_check}
use Rattle.base.specs.Finite.{record_words_check, table_words_check, FiniteRecord, FiniteMonth}
use Rattle.base.specs.Files.{index_file_check, file_check, files_check}
use Rattle.base.proofs.verdicts.Refusals.{refused_not_accepted, then_both}
use Rattle.base.proofs.layout.Walks.{accepted_length}
use Rattle.base.proofs.layout.FirstWords.{tables_finite, record_finite}

-- ---- what an accepted check gives

-- the test passes, and the check after it accepts
pub unless : (b : Bool) (v : Verdict) (why : Refusal) → cond b v (Err why) ≡ Ok tt → (b ≡ true) × (v ≡ Ok tt)
unless true v why e = (refl, e)
unless false v why e = refused_not_accepted e

module _ (month : List ℕ) (e : index_file_check month ≡ Ok tt) where
  pub index_length : month_file_size ≤ length month
  unfolding index_file_check
  index_length = accepted_length month (then_both (month_file_check month) (index_check month) e).0

-- the checks of a month file, one after the other
record FileParts (month : List ℕ) : Type 0 where
  walk : month_file_check month ≡ Ok tt
  words : table_words_check month ≡ Ok tt
  index : index_check month ≡ Ok tt

file_parts : (month : List ℕ) → file_check month ≡ Ok tt → FileParts month
unfolding file_check
file_parts month e =
    let w = then_both (month_file_check month) (table_words_check month then index_check month) e in
    let t = then_both (table_words_check month) (index_check month) w.1 in
    record { walk = w.0; words = t.0; index = t.1 }

parts_file : (month : List ℕ) → FileParts month → file_check month ≡ Ok tt
unfolding file_check
parts_file month p = λ i. p.walk i then p.words i then p.index i

module _ (month : List ℕ) (e : file_check month ≡ Ok tt) where
  pub file_index : index_check month ≡ Ok tt
  file_index = (file_parts month e).index

  pub file_indexed : index_file_check month ≡ Ok tt
  unfolding index_file_check
  file_indexed = λ i. (file_parts month e).walk i then file_index i

  pub file_length : month_file_size ≤ length month
  file_length = accepted_length month (file_parts month e).walk

  pub file_finite : FiniteMonth month
  file_finite = tables_finite month (file_parts month e).words

module _ (f2 month : List ℕ) (e : files_check f2 month ≡ Ok tt) where
  abbrev rest : Verdict
  rest = record_words_check f2 1 then table_words_check month then index_check month

  both : (leb record_size (length f2) ≡ true) × ((month_file_check month then rest) ≡ Ok tt)
  unfolding files_check
  both = unless (leb record_size (length f2)) (month_file_check month then rest) Record e

  words : (record_words_check f2 1 ≡ Ok tt) × ((table_words_check month then index_check month) ≡ Ok tt)
  words = then_both (record_words_check f2 1) (table_words_check month then index_check month) (then_both (month_file_check month) rest both.1).1

  pub files_record : record_size ≤ length f2
  files_record = leb-true record_size (length f2) both.0

  pub files_record_finite : FiniteRecord f2
  files_record_finite = record_finite f2 words.0

  pub files_file : file_check month ≡ Ok tt
  files_file =
      let walk = (then_both (month_file_check month) rest both.1).0 in
      let t = then_both (table_words_check month) (index_check month) words.1 in
      parts_file month (record { walk = walk; words = t.0; index = t.1 })

  pub files_index : index_check month ≡ Ok tt
  files_index = file_index month files_file

  pub files_length : month_file_size ≤ length month
  files_length = file_length month files_file

  pub files_finite : FiniteMonth month
  files_finite = file_finite month files_file

-- ---- what a reader leaves: v is the verdict that it finds, w the check's

module _ {A : Type 0} {v w : Verdict} (e : v ≡ w) (old : A) where
  pub written : {new out : A} → v ≡ Ok tt → out ≡ new → out ≡ written_over w new old
  written {new} z o = o ∙ ap (λ (x : Verdict). written_over x new old) (sym z ∙ e)
