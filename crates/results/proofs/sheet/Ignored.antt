-- Document 01's 'later bytes are ignored', of the record and of the month file: files that agree in
-- their first 7,904 and 38,552 bytes have the same check, the same answer and the same figures,
-- also where only one of the two files is changed and the other is any list at all. Everything that
-- a sheet reads lies among those bytes. Assumes nothing.
use Rattle.std.proofs.Common.{Err, ◌≡◌, sym, ap, ◌∙◌, cond, List, ℕ, ◌+◌, ◌*◌, ◌≤◌, leb, lit≤, length, Float, le-leb}
use Rattle.base.specs.declared.refusal.Refusal.TheVariants.{Record}
use Rattle.base.specs.Refusal.{Verdict}
use Rattle.base.specs.Single.{◌⊕◌, ◌⊗◌}
use Rattle.base.specs.Refusal.{◌then◌, written_over}
use Rattle.base.specs.MonthFile.{month_file_check}
use Rattle.base.specs.Finite.{record_words_check, table_words_check}
use Rattle.base.specs.Files.{files_check}
use Rattle.base.specs.Tables.{start_of, achi, bchi, anew, bnew, abmap}
use Rattle.base.specs.Index.{index_of, index_check}
use Rattle.base.specs.Blend.{hmym_of, fakmap_of}
use Rattle.results.specs.LaterBytes.{Alike}
use Rattle.results.proofs.files.Later.{float_alike, file_alike, tables_alike, records_alike, check_alike, index_alike, cofion_month, cofion_record, hmym_alike, fakmap_alike}
use Rattle.maps.specs.declared.inputs.Inputs.{Inputs}
use Rattle.maps.specs.Virtim.{virtim_of}
use Rattle.maps.specs.Layers.{sun_of, term_of, abmap_at, monthly_of}
use Rattle.maps.specs.Figures.{SheetHour, hour, hour_from, hour_of, figures_to, sheet_path, figures_of, points_or, shown_of, figures_buffer}

-- ---- the month file alone, beside any record

module _ (s t : List ℕ) (a : Alike 38552 s t) where
  term_alike : (x y k : ℕ) (ssn : Float) → start_of x + 4 * k + 4 ≤ 38552 → start_of y + 4 * k + 4 ≤ 38552 → term_of s x y k ssn ≡ term_of t x y k ssn
  unfolding term_of
  term_alike x y k ssn p q =
      let u = float_alike 38552 s t a (start_of x + 4 * k) p in
      let v = float_alike 38552 s t a (start_of y + 4 * k) q in
      λ i. u i ⊕ v i ⊗ ssn

  abmap_alike : (c k : ℕ) → start_of abmap + 4 * (c * 2 + k) + 4 ≤ 38552 → abmap_at s c k ≡ abmap_at t c k
  unfolding abmap_at
  abmap_alike c k p = float_alike 38552 s t a (start_of abmap + 4 * (c * 2 + k)) p

  monthly_alike : (month : ℕ) (ssn : Float) → monthly_of s month ssn ≡ monthly_of t month ssn
  unfolding monthly_of
  monthly_alike month ssn =
      let chi0 = term_alike achi bchi 0 ssn (lit≤ tt) (lit≤ tt) in
      let chi1 = term_alike achi bchi 1 ssn (lit≤ tt) (lit≤ tt) in
      let new0 = term_alike anew bnew 0 ssn (lit≤ tt) (lit≤ tt) in
      let new1 = term_alike anew bnew 1 ssn (lit≤ tt) (lit≤ tt) in
      let new2 = term_alike anew bnew 2 ssn (lit≤ tt) (lit≤ tt) in
      let m00 = abmap_alike 0 0 (lit≤ tt) in
      let m01 = abmap_alike 0 1 (lit≤ tt) in
      let m10 = abmap_alike 1 0 (lit≤ tt) in
      let m11 = abmap_alike 1 1 (lit≤ tt) in
      λ i.
      record {
        sun = sun_of month;
        chi0 = chi0 i;
        chi1 = chi1 i;
        new0 = new0 i;
        new1 = new1 i;
        new2 = new2 i;
        land_alf = m00 i;
        land_bet = m01 i;
        ratio_alf = m10 i;
        ratio_bet = m11 i;
      }

  month_files : (f : List ℕ) → files_check f s ≡ files_check f t
  unfolding files_check
  month_files f =
      let walked = file_alike s t a in
      let words = tables_alike s t a in
      let index = check_alike 38552 s t a (lit≤ tt) in
      λ i. cond (leb 7904 (length f)) (walked i then record_words_check f 1 then words i then index i) (Err Record)

  module _ (f : List ℕ) (x : Inputs) where
    month_hour : hour_of f s x ≡ hour_of f t x
    unfolding hour_of hour_from
    month_hour =
        let cof = cofion_month s t a f x.ssn in
        let index = index_alike 38552 s t a (lit≤ tt) in
        let monthly = monthly_alike x.month x.ssn in
        let hmym = hmym_alike s t a x.ssn in
        let fakmap = fakmap_alike s t a in
        λ i. hour (virtim_of (cof i) (index i) x.gmt) (index i) (monthly i) (hmym i) (fakmap i)

    pub later_month_figures : figures_of f s x ≡ figures_of f t x
    unfolding figures_of
    later_month_figures = ap (λ (h : SheetHour). figures_to h x (sheet_path x) 5) month_hour

    pub later_month_answer : shown_of f s x ≡ shown_of f t x
    unfolding shown_of
    later_month_answer = ap (λ (v : Verdict). points_or v (sheet_path x).count) (month_files f)

    pub later_month_buffer : (out : List Float) → figures_buffer f s x out ≡ figures_buffer f t x out
    unfolding figures_buffer
    later_month_buffer out = let c = month_files f in let l = later_month_figures in λ i. written_over (c i) (l i) out

-- ---- the record alone, beside any month file

module _ (f g : List ℕ) (b : Alike 7904 f g) (s : List ℕ) where
  record_files : files_check f s ≡ files_check g s
  unfolding files_check
  record_files =
      let p = b.here in
      let q = b.there in
      let l : leb 7904 (length f) ≡ leb 7904 (length g) = le-leb 7904 (length f) p ∙ sym (le-leb 7904 (length g) q) in
      let words = records_alike f g b in
      λ i. cond (l i) (month_file_check s then words i then table_words_check s then index_check s) (Err Record)

  module _ (x : Inputs) where
    record_hour : hour_of f s x ≡ hour_of g s x
    unfolding hour_of
    record_hour = ap (λ (c : List Float). hour_from s (index_of s) c (hmym_of s x.ssn) (fakmap_of s) x) (cofion_record f g b s x.ssn)

    pub later_record_figures : figures_of f s x ≡ figures_of g s x
    unfolding figures_of
    later_record_figures = ap (λ (h : SheetHour). figures_to h x (sheet_path x) 5) record_hour

    pub later_record_answer : shown_of f s x ≡ shown_of g s x
    unfolding shown_of
    later_record_answer = ap (λ (v : Verdict). points_or v (sheet_path x).count) record_files

    pub later_record_buffer : (out : List Float) → figures_buffer f s x out ≡ figures_buffer g s x out
    unfolding figures_buffer
    later_record_buffer out = let c = record_files in let l = later_record_figures in λ i. written_over (c i) (l i) out

-- ---- both

module _ (f g s t : List ℕ) (b : Alike 7904 f g) (a : Alike 38552 s t) where
  module _ (x : Inputs) where
    pub later_figures : figures_of f s x ≡ figures_of g t x
    later_figures = later_record_figures f g b s x ∙ later_month_figures s t a g x

    pub later_answer : shown_of f s x ≡ shown_of g t x
    later_answer = later_record_answer f g b s x ∙ later_month_answer s t a g x

    pub later_buffer : (out : List Float) → figures_buffer f s x out ≡ figures_buffer g t x out
    later_buffer out = later_record_buffer f g b s x out ∙ later_month_buffer s t a g x out
