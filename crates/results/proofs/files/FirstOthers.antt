-- What the checks of the words say, without the search: they accept exactly where every word is a
-- finite number, and refuse with 23 and a place exactly where that is the byte of the first that is
-- none. No two checks of the files share a refusal, so a refusal tells which one refused and that
-- those before it accepted. Assumes nothing.
use Rattle.std.proofs.Common.{Err, Ok, ◌≡◌, refl, sym, ap, ◌∙◌, subst, Bool, true, false, cond, List, [], ◌∷◌, ℕ, zero, suc, ◌+◌, ◌-◌, ◌*◌, ◌≤◌, ◌<◌, arith, T, leb, eqb, length, get_or, le-leb, leb-true}
use lib.Ieee.Scale.{finite}
use Rattle.base.specs.declared.refusal.Refusal.{Refusal}
use Rattle.base.specs.declared.refusal.Refusal.TheVariants.{Record, RecordWord, MonthWord, Index}
use Rattle.base.specs.Refusal.{Verdict}
use Rattle.base.specs.Refusal.{report_of, verdict_report, refuse_unless, ◌then◌}
use Rattle.base.specs.Words.{float_at, FiniteRun}
use Rattle.base.specs.MonthFile.{record_size, month_file_check}
use Rattle.base.specs.Tables.{Table, words_in, no_such_table, start_of, words_of, xf2cof}
use Rattle.base.specs.Index.{ikim_at, rows, harmonics, good_map, lowest_bad, index_check}
use Rattle.base.specs.Finite.{words_check, record_words_check, float_tables, each_check, table_words_check, first_other}
use Rattle.base.specs.Files.{file_check, files_check}
use Rattle.results.specs.AcceptedFiles.{FileAnswer, taken, ended, wrong, RecordWordsGood, MonthWordsGood, FirstInRecord, RecordWordRefused, FirstInMonth, MonthWordRefused, FileWordRefused, IndexRefusedLast, FilesGood}
use Rattle.base.proofs.verdicts.Refusals.{refused_not_accepted, then_both}
use Rattle.base.proofs.layout.FirstWords.{by_first, two_runs, run_finite, finite_run, tables_finite, finite_tables, record_finite, finite_record}
use Rattle.results.proofs.files.IndexAnswers.{index_refused}
use Rattle.base.proofs.layout.Readers.{files_record, files_record_finite, files_file, files_index, files_finite}

-- ---- accepted exactly where all are finite

pub record_words_good : RecordWordsGood
record_words_good f2 = (record_finite f2, finite_record f2)

pub month_words_good : MonthWordsGood
month_words_good month = (tables_finite month, finite_tables month)

-- ---- the first other of a run

module _ (s : List ℕ) where
  -- of n words from the byte `at` on it is at the byte p
  record First (at n p : ℕ) : Type 0 where
    word : ℕ
    inside : word < n
    place : p ≡ at + 4 * word
    bad : T (finite (float_at s p)) → ⊥
    before : FiniteRun s at word

  abbrev Good : ℕ → Type 0
  Good p = T (finite (float_at s p))

  -- the byte is read off the refusal's place, so `why` must keep it there
  first_found :
      (why : ℕ → Refusal) → ((q : ℕ) → (report_of (why q)).1 ≡ q) → (at n p : ℕ) →
      words_check why s at n ≡ Err (why p) → First at n p
  unfolding words_check
  first_found why keeps at zero p e = refused_not_accepted (sym e)
  first_found why keeps at (suc n) p e = go (finite (float_at s at)) refl (first_found why keeps (at + 4) n p) e
    where
      go :
          (b : Bool) → finite (float_at s at) ≡ b →
          (words_check why s (at + 4) n ≡ Err (why p) → First (at + 4) n p) →
          cond b (words_check why s (at + 4) n) (Err (why at)) ≡ Err (why p) → First at (suc n) p
      go true f more e =
          let m = more e in
          let w = m.word in
          let q = m.place in
          let l = m.inside in
          record { word = suc w; inside = omega arith; place = omega arith; bad = m.bad; before = all w m.before }
        where
          all : (w : ℕ) → FiniteRun s (at + 4) w → FiniteRun s at (suc w)
          all w r zero h = subst Good (omega arith) (subst T (sym f) tt)
          all w r (suc i) h = subst Good (omega arith) (r i (omega arith))
      go false f more e =
          let q : at ≡ p = sym (keeps at) ∙ ap (λ (v : Verdict). (verdict_report v).1) e ∙ keeps p in
          record {
            word = 0;
            inside = omega arith;
            place = omega arith;
            bad = λ t. subst T f (subst Good (sym q) t);
            before = λ i h. absurd (omega arith);
          }

  -- the words before it are a run that is accepted, and it is the first of the run behind them
  first_refused : (why : ℕ → Refusal) (at n p : ℕ) → First at n p → words_check why s at n ≡ Err (why p)
  unfolding words_check
  first_refused why at n p f =
      let w = f.word in
      let l = f.inside in
      let m = n - (w + 1) in
      let e : n ≡ w + suc m = omega arith in
      ap (words_check why s at) e
      ∙ two_runs s why at w (suc m)
      ∙ ap (λ (v : Verdict). v then words_check why s (at + 4 * w) (suc m)) (finite_run s why at w f.before)
      ∙ ap (λ (q : ℕ). words_check why s q (suc m)) (sym f.place)
      ∙ stops (finite (float_at s p)) f.bad (words_check why s (p + 4) m)
    where
      stops : (b : Bool) → (T b → ⊥) → (v : Verdict) → cond b v (Err (why p)) ≡ Err (why p)
      stops true n v = absurd (n tt)
      stops false n v = refl

  -- ---- the first other of tables

  abbrev FiniteTable : Table → Type 0
  FiniteTable t = FiniteRun s t.from (words_in t)

  record FirstTable (ts : List Table) (p : ℕ) : Type 0 where
    table : ℕ
    inside : table < length ts
    earlier : (j : ℕ) → j < table → FiniteTable (get_or ts j no_such_table)
    first : First (get_or ts table no_such_table).from (words_in (get_or ts table no_such_table)) p

  each_found : (ts : List Table) (p : ℕ) → each_check s ts ≡ Err (MonthWord p) → FirstTable ts p
  unfolding each_check
  each_found [] p e = refused_not_accepted (sym e)
  each_found (t ∷ ts) p e = go (words_check MonthWord s t.from (words_in t)) refl (each_found ts p) e
    where
      go :
          (v : Verdict) → words_check MonthWord s t.from (words_in t) ≡ v →
          (each_check s ts ≡ Err (MonthWord p) → FirstTable ts p) → (v then each_check s ts) ≡ Err (MonthWord p) →
          FirstTable (t ∷ ts) p
      go (Ok _) a more e =
          let m = more e in
          let k = m.table in
          let l = m.inside in
          record { table = suc k; inside = omega arith; earlier = all k m.earlier; first = m.first }
        where
          all :
              (k : ℕ) → ((j : ℕ) → j < k → FiniteTable (get_or ts j no_such_table)) → (j : ℕ) → j < suc k →
              FiniteTable (get_or (t ∷ ts) j no_such_table)
          all k r zero h = run_finite s MonthWord t.from (words_in t) a
          all k r (suc j) h = r j (omega arith)
      go (Err why) a more e =
          record {
            table = 0;
            inside = omega arith;
            earlier = λ j h. absurd (omega arith);
            first = first_found MonthWord (λ q. refl) t.from (words_in t) p (a ∙ e);
          }

  each_refused :
      (ts : List Table) (p k : ℕ) → k < length ts → ((j : ℕ) → j < k → FiniteTable (get_or ts j no_such_table)) →
      First (get_or ts k no_such_table).from (words_in (get_or ts k no_such_table)) p → each_check s ts ≡ Err (MonthWord p)
  unfolding each_check
  each_refused [] p k h r f = absurd (omega arith)
  each_refused (t ∷ ts) p zero h r f =
      ap (λ (v : Verdict). v then each_check s ts) (first_refused MonthWord t.from (words_in t) p f)
  each_refused (t ∷ ts) p (suc k) h r f =
      ap (λ (v : Verdict). v then each_check s ts) (finite_run s MonthWord t.from (words_in t) (r 0 (omega arith)))
      ∙ each_refused ts p k (omega arith) (λ j l. r (suc j) (omega arith)) f

-- ---- by record and by number

record_first : (f2 : List ℕ) (p : ℕ) → record_words_check f2 1 ≡ Err (RecordWord p) → FirstInRecord f2 p
unfolding record_words_check
record_first f2 p e =
    let f = first_found f2 RecordWord (λ q. refl) (start_of xf2cof) (words_of xf2cof) p e in
    let q = f.place in
    record {
      word = f.word;
      inside = f.inside;
      place = omega arith;
      bad = f.bad;
      before = λ i h. subst (λ (a : ℕ). T (finite (float_at f2 a))) (omega arith) (f.before i h);
    }

first_record : (f2 : List ℕ) (p : ℕ) → FirstInRecord f2 p → record_words_check f2 1 ≡ Err (RecordWord p)
unfolding record_words_check
first_record f2 p f =
    let q = f.place in
    first_refused f2 RecordWord (start_of xf2cof) (words_of xf2cof) p
    (record {
      word = f.word;
      inside = f.inside;
      place = omega arith;
      bad = f.bad;
      before = λ i h. subst (λ (a : ℕ). T (finite (float_at f2 a))) (omega arith) (f.before i h);
    })

-- the table k of those of f32 has the number k + 2
month_first : (month : List ℕ) (p : ℕ) → table_words_check month ≡ Err (MonthWord p) → FirstInMonth month p
unfolding table_words_check
month_first month p e =
    let g = each_found month float_tables p e in
    let f = g.first in
    let k = g.table in
    let l = g.inside in
    record {
      table = suc (suc k);
      word = f.word;
      low = omega arith;
      high = omega arith;
      inside = f.inside;
      place = f.place;
      bad = f.bad;
      earlier = by_number k g.earlier;
      before = f.before;
    }
  where
    by_number :
        (k : ℕ) → ((j : ℕ) → j < k → FiniteTable month (get_or float_tables j no_such_table)) →
        (t i : ℕ) → 2 ≤ t → t < suc (suc k) → i < words_of t → T (finite (float_at month (start_of t + 4 * i)))
    by_number k r zero i l h m = absurd (omega arith)
    by_number k r (suc zero) i l h m = absurd (omega arith)
    by_number k r (suc (suc j)) i l h m = r j (omega arith) i m

first_month : (month : List ℕ) (p : ℕ) → FirstInMonth month p → table_words_check month ≡ Err (MonthWord p)
unfolding table_words_check
first_month month p f =
    by_number f.table f.low f.high (λ t l h i m. f.earlier t i l h m)
    (record { word = f.word; inside = f.inside; place = f.place; bad = f.bad; before = f.before })
  where
    by_number :
        (k : ℕ) → 2 ≤ k → k ≤ 20 → ((t : ℕ) → 2 ≤ t → t < k → FiniteRun month (start_of t) (words_of t)) →
        First month (start_of k) (words_of k) p → each_check month float_tables ≡ Err (MonthWord p)
    by_number zero l h r g = absurd (omega arith)
    by_number (suc zero) l h r g = absurd (omega arith)
    by_number (suc (suc k)) l h r g =
        each_refused month float_tables p k (omega arith) (λ j m. r (suc (suc j)) (omega arith) (omega arith)) g

-- ---- the refusals of each check

-- it accepts or refuses as `why` says of some place
data Answers (why : ℕ → Refusal) : Verdict → Type 0 where
  fine : Answers why (Ok tt)
  other : (p : ℕ) → Answers why (Err (why p))

test_answers : (why : ℕ → Refusal) (b : Bool) (p : ℕ) → Answers why (refuse_unless b (why p))
test_answers why true p = fine
test_answers why false p = other p

words_answers : (why : ℕ → Refusal) (s : List ℕ) (at n : ℕ) → Answers why (words_check why s at n)
words_answers why s at n =
    subst (Answers why) (sym (by_first s why at n)) (test_answers why (eqb (first_other s at n) (at + 4 * n)) _)

then_answers : {why : ℕ → Refusal} {v w : Verdict} → Answers why v → Answers why w → Answers why (v then w)
then_answers fine b = b
then_answers (other p) b = other p

each_answers : (s : List ℕ) (ts : List Table) → Answers MonthWord (each_check s ts)
unfolding each_check
each_answers s [] = fine
each_answers s (t ∷ ts) = then_answers (words_answers MonthWord s t.from (words_in t)) (each_answers s ts)

lowest_answers : (month : List ℕ) (n k : ℕ) → Answers Index (lowest_bad month n k)
unfolding lowest_bad
lowest_answers month zero k = fine
lowest_answers month (suc n) k =
    go (good_map (ikim_at month k) (get_or rows k 0) (get_or harmonics k 0)) (lowest_answers month n (k + 1))
  where
    go :
        (b : Bool) → Answers Index (lowest_bad month n (k + 1)) →
        Answers Index (cond b (lowest_bad month n (k + 1)) (Err (Index (k + 1))))
    go true a = a
    go false a = other (k + 1)

record_answers : (f2 : List ℕ) → Answers RecordWord (record_words_check f2 1)
unfolding record_words_check
record_answers f2 = words_answers RecordWord f2 (start_of xf2cof) (words_of xf2cof)

month_answers : (month : List ℕ) → Answers MonthWord (table_words_check month)
unfolding table_words_check
month_answers month = each_answers month float_tables

index_answers : (month : List ℕ) → Answers Index (index_check month)
unfolding index_check
index_answers month = lowest_answers month 6 0

-- ---- the order of the checks

abbrev in_turn : Bool → Verdict → Verdict → Verdict → Verdict → Verdict
in_turn b m v t x = cond b (m then v then t then x) (Err Record)

module _ (p : ℕ) where
  -- refused by the record's words: the checks before them accept,
  record_turn :
      (b : Bool) {m v t x : Verdict} → FileAnswer m → Answers RecordWord v → Answers MonthWord t → Answers Index x →
      in_turn b m v t x ≡ Err (RecordWord p) → (b ≡ true) × (m ≡ Ok tt) × (v ≡ Err (RecordWord p))
  record_turn false am av at ax e = cc
  record_turn true (ended a) av at ax e = cc
  record_turn true (wrong a) av at ax e = cc
  record_turn true taken (other a) at ax e = (refl, refl, e)
  record_turn true taken fine (other a) ax e = cc
  record_turn true taken fine fine (other a) e = cc
  record_turn true taken fine fine fine e = cc

  -- and by the month file's words the record's too
  month_turn :
      (b : Bool) {m v t x : Verdict} → FileAnswer m → Answers RecordWord v → Answers MonthWord t → Answers Index x →
      in_turn b m v t x ≡ Err (MonthWord p) →
      (b ≡ true) × (m ≡ Ok tt) × (v ≡ Ok tt) × (t ≡ Err (MonthWord p))
  month_turn false am av at ax e = cc
  month_turn true (ended a) av at ax e = cc
  month_turn true (wrong a) av at ax e = cc
  month_turn true taken (other a) at ax e = cc
  month_turn true taken fine (other a) ax e = (refl, refl, refl, e)
  month_turn true taken fine fine (other a) e = cc
  month_turn true taken fine fine fine e = cc

  -- and by the index table the month file's words too
  index_turn :
      (b : Bool) {m v t x : Verdict} → FileAnswer m → Answers RecordWord v → Answers MonthWord t → Answers Index x →
      in_turn b m v t x ≡ Err (Index p) →
      (b ≡ true) × (m ≡ Ok tt) × (v ≡ Ok tt) × (t ≡ Ok tt) × (x ≡ Err (Index p))
  index_turn false am av at ax e = cc
  index_turn true (ended a) av at ax e = cc
  index_turn true (wrong a) av at ax e = cc
  index_turn true taken (other a) at ax e = cc
  index_turn true taken fine (other a) ax e = cc
  index_turn true taken fine fine ax e = (refl, refl, refl, refl, e)

-- what is said of the parts is put together again by a path through the checks in turn

pub record_word_refused : ((s : List ℕ) → FileAnswer (month_file_check s)) → RecordWordRefused
unfolding files_check
record_word_refused answer f2 month p = (
  λ e.
      let b = leb record_size (length f2) in
      let o = record_turn p b (answer month) (record_answers f2) (month_answers month) (index_answers month) e in
      record { whole = leb-true record_size (length f2) o.0; walked = o.1; first = record_first f2 p o.2 },
  λ d i.
      let b = le-leb record_size (length f2) d.whole in
      in_turn (b i) (d.walked i) (first_record f2 p d.first i) (table_words_check month) (index_check month),
)

pub month_word_refused : ((s : List ℕ) → FileAnswer (month_file_check s)) → MonthWordRefused
unfolding files_check
month_word_refused answer f2 month p = (
  λ e.
      let b = leb record_size (length f2) in
      let o = month_turn p b (answer month) (record_answers f2) (month_answers month) (index_answers month) e in
      record {
        whole = leb-true record_size (length f2) o.0;
        walked = o.1;
        record_finite = record_finite f2 o.2;
        first = month_first month p o.3;
      },
  λ d i.
      let b = le-leb record_size (length f2) d.whole in
      let v = finite_record f2 d.record_finite in
      in_turn (b i) (d.walked i) (v i) (first_month month p d.first i) (index_check month),
)

-- of a month file alone the record has nothing to say
pub file_word_refused : ((s : List ℕ) → FileAnswer (month_file_check s)) → FileWordRefused
unfolding file_check
file_word_refused answer month p = (
  λ e.
      let o = month_turn p true (answer month) fine (month_answers month) (index_answers month) e in
      record { walked = o.1; first = month_first month p o.3 },
  λ d i. in_turn true (d.walked i) (Ok tt) (first_month month p d.first i) (index_check month),
)

pub index_refused_last : ((s : List ℕ) → FileAnswer (month_file_check s)) → IndexRefusedLast
unfolding files_check
index_refused_last answer f2 month place = (
  λ e.
      let b = leb record_size (length f2) in
      let o = index_turn place b (answer month) (record_answers f2) (month_answers month) (index_answers month) e in
      record {
        whole = leb-true record_size (length f2) o.0;
        walked = o.1;
        record_finite = record_finite f2 o.2;
        month_finite = tables_finite month o.3;
        lowest = (index_refused month place).0 o.4;
      },
  λ d i.
      let b = le-leb record_size (length f2) d.whole in
      let v = finite_record f2 d.record_finite in
      in_turn (b i) (d.walked i) (v i) (finite_tables month d.month_finite i) ((index_refused month place).1 d.lowest i),
)

pub files_good : FilesGood
unfolding files_check file_check
files_good f2 month = (
  λ e.
      let rest = table_words_check month then index_check month in
      record {
        whole = files_record f2 month e;
        walked = (then_both (month_file_check month) rest (files_file f2 month e)).0;
        record_finite = files_record_finite f2 month e;
        month_finite = files_finite f2 month e;
        index = files_index f2 month e;
      },
  λ g i.
      let b = le-leb record_size (length f2) g.whole in
      let v = finite_record f2 g.record_finite in
      in_turn (b i) (g.walked i) (v i) (finite_tables month g.month_finite i) (g.index i),
)
