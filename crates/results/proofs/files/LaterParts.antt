-- Month record and Table look at no byte after those they need: files that agree in these have the
-- same check, and the same bytes are handed back, whatever follows. Each file by itself too: the
-- other one may then be any list at all. Assumes nothing.
use Rattle.std.proofs.Common.{Err, Ok, ◌≡◌, refl, sym, ap, ◌∙◌, Bool, cond, List, ℕ, ◌+◌, ◌*◌, ◌≤◌, arith, leb, length, take, drop, length-drop, length-take-le, get_or-take, get_or-drop, ext_get_or, Bor, le-leb}
use native.Mathlib.Decide.{dec_lt}
use Rattle.base.specs.declared.refusal.Refusal.TheVariants.{Record, Table as NoTable}
use Rattle.base.specs.Refusal.{Verdict}
use Rattle.base.specs.Refusal.{refuse_unless, ◌then◌, is_accepted}
use Rattle.base.specs.Ranges.{month_check}
use Rattle.base.specs.MonthFile.{record_size, month_file_size, Part, empty_part, month_record_check, month_start, month_part, month_file_check}
use Rattle.base.specs.Tables.{part_of, table_check, table_part, table_file}
use Rattle.base.proofs.layout.Records.{month_known, month_part_law, month_none}
use Rattle.base.proofs.layout.Parts.{table_known, placed, table_part_law, table_none, file_f2, file_month}
use Rattle.results.specs.LaterBytes.{Alike}
use Rattle.results.proofs.files.Later.{file_alike}

-- the bytes of a part
abbrev pub bytes_at : Part → List ℕ → List ℕ
bytes_at p s = take p.size (drop p.from s)

module _ (n : ℕ) (s t : List ℕ) (a : Alike n s t) where
  length_there : (x : List ℕ) → n ≤ length x → (from size : ℕ) → from + size ≤ n → length (take size (drop from x)) ≡ size
  length_there x l from size h = let e = length-drop from x in length-take-le size (drop from x) (omega arith)

  part_alike : (p : Part) → p.from + p.size ≤ n → bytes_at p s ≡ bytes_at p t
  part_alike p h =
      let f = p.from in
      let z = p.size in
      let u = length_there s a.here f z h in
      let v = length_there t a.there f z h in
      ext_get_or 0 (take z (drop f s)) (take z (drop f t)) (u ∙ sym v)
      (λ i l.
      get_or-take z (drop f s) i 0 (omega arith)
      ∙ get_or-drop f s i 0
      ∙ a.bytes (f + i) (omega arith)
      ∙ sym (get_or-take z (drop f t) i 0 (omega arith) ∙ get_or-drop f t i 0))

  enough : (k : ℕ) → k ≤ n → leb k (length s) ≡ leb k (length t)
  enough k h = let x = a.here in let y = a.there in le-leb k (length s) (omega arith) ∙ sym (le-leb k (length t) (omega arith))

-- ---- Month record: what follows the month's record

module _ (s t : List ℕ) (m : ℕ) (a : Alike (m * record_size) s t) where
  pub month_check_later : month_record_check s m ≡ month_record_check t m
  unfolding month_record_check
  month_check_later = ap (λ (b : Bool). month_check m then refuse_unless b Record) (enough (m * record_size) s t a (m * record_size) (omega arith))

  pub month_part_later : month_part s m ≡ month_part t m
  unfolding month_part
  month_part_later =
      ap (λ (v : Verdict). cond (is_accepted v) (record { from = month_start m; size = record_size }) empty_part) month_check_later

  -- the same bytes are handed back
  pub month_bytes_later : bytes_at (month_part s m) s ≡ bytes_at (month_part t m) t
  month_bytes_later = go (month_record_check s m) refl
    where
      go : (v : Verdict) → v ≡ month_record_check s m → bytes_at (month_part s m) s ≡ bytes_at (month_part t m) t
      go (Ok _) e =
          let l = (month_known s m (sym e)).low in
          ap (λ (p : Part). bytes_at p s) (month_part_law s m e refl)
          ∙ part_alike (m * record_size) s t a (record { from = month_start m; size = record_size }) (omega arith)
          ∙ sym (ap (λ (p : Part). bytes_at p t) (month_part_law t m (e ∙ month_check_later) refl))
      go (Err why) e =
          ap (λ (p : Part). bytes_at p s) (month_none s m e refl) ∙ sym (ap (λ (p : Part). bytes_at p t) (month_none t m (e ∙ month_check_later) refl))

-- ---- Table: what follows the record's 7,904 bytes, and the month file's 38,552

module _ (k : ℕ) where
  -- the record alone, beside any month file
  pub table_record_later : (f g s : List ℕ) → Alike record_size f g → table_check k f s ≡ table_check k g s
  unfolding table_check
  table_record_later f g s b =
      ap (λ (c : Bool). cond (leb k 20) (cond c (month_file_check s) (Err Record)) (Err NoTable)) (enough record_size f g b record_size (omega arith))

  -- the month file alone, beside any record
  pub table_month_later : (f s t : List ℕ) → Alike month_file_size s t → table_check k f s ≡ table_check k f t
  unfolding table_check
  table_month_later f s t a =
      ap (λ (v : Verdict). cond (leb k 20) (cond (leb record_size (length f)) v (Err Record)) (Err NoTable)) (file_alike s t a)

  module _ (f g s t : Bor (List ℕ)) (b : Alike record_size f.now g.now) (a : Alike month_file_size s.now t.now) where
    pub table_check_later : table_check k f.now s.now ≡ table_check k g.now t.now
    table_check_later = table_record_later f.now g.now s.now b ∙ table_month_later g.now s.now t.now a

    pub table_part_later : table_part k f.now s.now ≡ table_part k g.now t.now
    unfolding table_part
    table_part_later = ap (λ (v : Verdict). cond (is_accepted v) (part_of k) empty_part) table_check_later

    abbrev here : List ℕ
    here = (table_file k f s).now

    abbrev there : List ℕ
    there = (table_file k g t).now

    -- the same bytes are handed back
    pub table_bytes_later : bytes_at (table_part k f.now s.now) (table_file k f s).now ≡ bytes_at (table_part k g.now t.now) (table_file k g t).now
    table_bytes_later = go (table_check k f.now s.now) refl
      where
        go : (v : Verdict) → v ≡ table_check k f.now s.now → bytes_at (table_part k f.now s.now) here ≡ bytes_at (table_part k g.now t.now) there
        go (Err why) e =
            ap (λ (p : Part). bytes_at p here) (table_none k f.now s.now e refl)
            ∙ sym (ap (λ (p : Part). bytes_at p there) (table_none k g.now t.now (e ∙ table_check_later) refl))
        go (Ok _) e =
            let d : Ok tt ≡ table_check k g.now t.now = e ∙ table_check_later in
            let w = placed k (table_known k f.now s.now (sym e)).known in
            ap (λ (p : Part). bytes_at p here) (table_part_law k f.now s.now e refl)
            ∙ elim (dec_lt 0 k) [
              | yes h ↦
                  ap (λ (x : Bor (List ℕ)). bytes_at (part_of k) x.now) (file_month k f s e refl (λ q. omega arith))
                  ∙ part_alike month_file_size s.now t.now a (part_of k) w.inside
                  ∙ sym (ap (λ (x : Bor (List ℕ)). bytes_at (part_of k) x.now) (file_month k g t d refl (λ q. omega arith)))
              | no h ↦
                  let q : k ≡ 0 = omega arith in
                  ap (λ (x : Bor (List ℕ)). bytes_at (part_of k) x.now) (file_f2 k f s e refl q)
                  ∙ part_alike record_size f.now g.now b (part_of k) (w.planes q)
                  ∙ sym (ap (λ (x : Bor (List ℕ)). bytes_at (part_of k) x.now) (file_f2 k g t d refl q))
            ]
            ∙ sym (ap (λ (p : Part). bytes_at p there) (table_part_law k g.now t.now d refl))
