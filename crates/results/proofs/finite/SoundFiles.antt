-- Files that the layers' laws ask for, exhibited: every word of `good_record` and of `good_month_file`
-- that figures read is zero. Assumes nothing.
use Rattle.std.proofs.Common.{◌≡◌, refl, sym, subst, Bool, true, false, cond, List, ℕ, ◌+◌, ◌*◌, ◌≤◌, arith, T, eqb, leb, leb→le, eqb→eq}
use lib.Ieee.{binary32, of_bits, le}
use Rattle.base.specs.Number.{negative, abs_of}
use Rattle.base.specs.Words.{word_at, float_at}
use Rattle.base.specs.MonthFile.{record_size}
use Rattle.base.specs.Tables.{start_of, xfm3cf, anew}
use Rattle.maps.specs.declared.inputs.Inputs.{Inputs}
use Rattle.results.specs.FiniteOrNot.{UpToPower, RouteInRange, FieldsInRange, is_read, Bounded, SoundFiles}
use Rattle.results.proofs.files.ZeroFiles.{zeros, month_word}
use Rattle.results.proofs.files.GoodFiles.{good_index_table, good_month_file, good_record, index_accepted, files_accepted}

zero_sized : UpToPower 16 (of_bits binary32 0)
unfolding of_bits abs_of negative le
zero_sized = tt

word_sized : (s : List ℕ) (at : ℕ) → word_at s at ≡ 0 → UpToPower 16 (float_at s at)
unfolding float_at
word_sized s at e = subst (λ (w : ℕ). UpToPower 16 (of_bits binary32 w)) (sym e) zero_sized

-- the tables that are read come after `ikim`
read_low : (table : ℕ) → T (is_read table) → 2 ≤ table
read_low table t = go (eqb table xfm3cf) (λ u. eqb→eq table xfm3cf u) t
  where
    go : (b : Bool) → (T b → table ≡ xfm3cf) → T (cond b true (leb anew table)) → 2 ≤ table
    go true f u = omega (arith, f tt)
    go false f u = omega (arith, leb→le anew table u)

good_bounded : Bounded good_record good_month_file
good_bounded = record {
  in_f2 = λ n h. word_sized good_record (4 * n) (zeros record_size (4 * n) (omega arith));
  in_month = λ table n r h.
      word_sized good_month_file (start_of table + 4 * n) (month_word good_index_table refl table n (read_low table r) h);
}

pub sound_sheets : (i : Inputs) → RouteInRange i → FieldsInRange i → SoundFiles i
sound_sheets i r f = record {
  f2 = good_record;
  file = good_month_file;
  accepted = files_accepted;
  sound = record { route = r; fields = f; index = index_accepted; bounded = good_bounded };
}
