-- The parts of the page, one after the other, are its sections: texts in turn are cut where a section
-- ends, and in each the part's number tells what it is. Assumes nothing.
use Rattle.std.proofs.Common.{ℕ, zero, suc, ◌+◌, ◌-◌, ◌<◌, ◌≤◌, min, cond, List, [], ◌++◌, append_assoc, append-nil, ◌≡◌, refl, sym, ap, ap₂, ◌∙◌, arith, add-zero, length, take}
use Rattle.worksheet.specs.Showing.{Source}
use Rattle.listing.specs.Account.{title_text, drafts_head, none_line, shorter_head, sheet_head}
use Rattle.listing.specs.Fields.{in_turn}
use Rattle.auditing.specs.declared.gathering.Gathered.{Gathered}
use Rattle.auditing.specs.Accounts.{number_at, field_account, draft_account, line_account, sheet_account}
use Rattle.auditing.specs.Page.{drafts_text, no_drafts, shorter_parts, drafts_parts, page_size, fields_part, sheet_part, shorter_part, drafts_part, page_part}
use Rattle.auditing.proofs.pages.Parts.{fields_field, shorter_call, shorter_rest, drafts_line, drafts_none, drafts_rest, page_fields, page_drafts}
use Rattle.results.specs.AuditPage.{Audited, places_kept, shorter_text}
use Rattle.results.proofs.pages.Calls.{turn_same, page_calls}

-- ---- texts in turn

turn_both :
    (f : ℕ → List ℕ) (m n : ℕ) → in_turn f (m + n) ≡ in_turn f m ++ in_turn (λ (j : ℕ). f (m + j)) n
unfolding in_turn
turn_both f m zero = ap (in_turn f) (add-zero m) ∙ sym (append-nil (in_turn f m))
turn_both f m (suc n) =
    let next : m + suc n ≡ suc (m + n) = omega arith in
    ap (in_turn f) next
    ∙ ap (λ (l : List ℕ). l ++ f (m + n)) (turn_both f m n)
    ∙ append_assoc (in_turn f m) (in_turn (λ (j : ℕ). f (m + j)) n) (f (m + n))

turn_one : (f : ℕ → List ℕ) → in_turn f 1 ≡ f 0
unfolding in_turn
turn_one f = refl

turn_two : (f : ℕ → List ℕ) → in_turn f 2 ≡ f 0 ++ f 1
unfolding in_turn
turn_two f = refl

-- one text, and then others
turn_first : (f : ℕ → List ℕ) (n : ℕ) → in_turn f (1 + n) ≡ f 0 ++ in_turn (λ (j : ℕ). f (1 + j)) n
turn_first f n = turn_both f 1 n ∙ ap (λ (l : List ℕ). l ++ in_turn (λ (j : ℕ). f (1 + j)) n) (turn_one f)

-- ---- the sections, from the last on

module _ (source : Source) (text : List ℕ) (g : Gathered) (marks numbers starts places : List ℕ) (size : ℕ) where
  abbrev sheet : ℕ → List ℕ
  sheet k = sheet_part source g k

  sheet_whole : in_turn sheet 2 ≡ sheet_head ++ sheet_account source g.sheet
  unfolding sheet_part
  sheet_whole = turn_two sheet

  abbrev shorter : ℕ → List ℕ
  shorter k = shorter_part source text g starts places size k

  abbrev call : ℕ → List ℕ
  call j = line_account text (number_at starts (number_at places j))

  calls_here : (j : ℕ) → j < size → shorter (2 + j) ≡ call j
  calls_here j h =
      let e : 2 + j - 2 ≡ j = omega arith in
      sym (shorter_call source text g starts places size (2 + j) (omega arith) (omega arith)) ∙ ap call e

  sheet_here : (j : ℕ) → j < 2 → shorter (2 + size + j) ≡ sheet j
  sheet_here j h =
      let e : 2 + size + j - 2 - size ≡ j = omega arith in
      sym (shorter_rest source text g starts places size (2 + size + j) (omega arith) (omega arith)) ∙ ap sheet e

  shorter_start : in_turn shorter 2 ≡ shorter_head ++ line_account text g.start
  unfolding shorter_part
  shorter_start = turn_two shorter

  abbrev sheet_section : List ℕ
  sheet_section = sheet_head ++ sheet_account source g.sheet

  abbrev shorter_section : List ℕ
  shorter_section = shorter_head ++ ((line_account text g.start ++ in_turn call size) ++ sheet_section)

  shorter_whole : in_turn shorter (shorter_parts size) ≡ shorter_section
  shorter_whole =
      let open_line_law = line_account text g.start in
      let calls = in_turn call size in
      turn_both shorter (2 + size) 2
      ∙ ap₂ ◌++◌
      (turn_both shorter 2 size
      ∙ ap₂ ◌++◌ shorter_start (turn_same _ call size calls_here)
      ∙ append_assoc shorter_head open_line_law calls)
      (turn_same _ sheet 2 sheet_here ∙ sheet_whole)
      ∙ append_assoc shorter_head (open_line_law ++ calls) sheet_section

  abbrev drafts : ℕ → List ℕ
  drafts k = drafts_part source text g marks numbers starts places size k

  abbrev draft : ℕ → List ℕ
  draft p = draft_account marks numbers g.count p

  abbrev none_section : List ℕ
  none_section = cond (no_drafts marks numbers g.count) none_line []

  draft_here : (j : ℕ) → j < g.count → drafts (1 + j) ≡ draft j
  draft_here j h =
      let e : 1 + j - 1 ≡ j = omega arith in
      sym (drafts_line source text g marks numbers starts places size (1 + j) (omega arith) (omega arith)) ∙ ap draft e

  none_here : drafts (1 + g.count + 0) ≡ none_section
  none_here =
      sym (
      drafts_none source text g marks numbers starts places size (1 + g.count + 0) (omega arith) (omega arith)
      (omega arith)
      )

  shorter_here_law : (j : ℕ) → j < shorter_parts size → drafts (1 + g.count + 1 + j) ≡ shorter j
  shorter_here_law j h =
      let e : 1 + g.count + 1 + j - 1 - g.count - 1 ≡ j = omega arith in
      sym (
      drafts_rest source text g marks numbers starts places size (1 + g.count + 1 + j) (omega arith) (omega arith)
      (λ q. omega arith)
      )
      ∙ ap shorter e

  drafts_head_here : drafts 0 ≡ drafts_head
  unfolding drafts_part
  drafts_head_here = refl

  abbrev drafts_section : List ℕ
  drafts_section = drafts_head ++ (in_turn draft g.count ++ (none_section ++ shorter_section))

  drafts_whole : in_turn drafts (drafts_parts g.count size) ≡ drafts_section
  drafts_whole =
      let lines = in_turn draft g.count in
      turn_both drafts (1 + g.count + 1) (shorter_parts size)
      ∙ ap₂ ◌++◌
      (turn_both drafts (1 + g.count) 1
      ∙ ap₂ ◌++◌
      (turn_first drafts g.count ∙ ap₂ ◌++◌ drafts_head_here (turn_same _ draft g.count draft_here))
      (turn_one _ ∙ none_here))
      (turn_same _ shorter (shorter_parts size) shorter_here_law ∙ shorter_whole)
      ∙ append_assoc (drafts_head ++ lines) none_section shorter_section
      ∙ append_assoc drafts_head lines (none_section ++ shorter_section)

  -- ---- all of them

  module _ (line : ℕ) where
    abbrev part : ℕ → List ℕ
    part k = page_part source text g marks numbers starts places size line k

    abbrev field : ℕ → List ℕ
    field k = field_account g.sheet.inputs g.opened marks numbers g.count k

    field_here : (k : ℕ) → k < 15 → part (1 + k) ≡ field (suc k)
    field_here k h =
        let e : 1 + k ≡ suc k = omega arith in
        sym (page_fields source text g marks numbers starts places size (1 + k) line (omega arith))
        ∙ sym (fields_field line g marks numbers (1 + k) (λ q. omega arith))
        ∙ ap field e

    title_here : part 0 ≡ title_text line
    unfolding page_part fields_part
    title_here = refl

    drafts_here_law : (j : ℕ) → j < drafts_parts g.count size → part (16 + j) ≡ drafts j
    drafts_here_law j h =
        let e : 16 + j - 16 ≡ j = omega arith in
        sym (page_drafts source text g marks numbers starts places size (16 + j) line (omega arith)) ∙ ap drafts e

    pub parts_whole :
        in_turn part (page_size g.count size)
        ≡ title_text line ++ (in_turn (λ (k : ℕ). field (suc k)) 15 ++ drafts_section)
    parts_whole =
        turn_both part 16 (drafts_parts g.count size)
        ∙ ap₂ ◌++◌
        (turn_first part 15 ∙ ap₂ ◌++◌ title_here (turn_same _ (λ (k : ℕ). field (suc k)) 15 field_here))
        (turn_same _ drafts (drafts_parts g.count size) drafts_here_law ∙ drafts_whole)
        ∙ append_assoc (title_text line) (in_turn (λ (k : ℕ). field (suc k)) 15) drafts_section

-- THE PAGE
pub page_whole :
    (a : Audited) (places : List ℕ) (size line : ℕ) → length a.calls ≤ length places →
    size ≡ min (length (places_kept a)) (suc (length places)) →
    (let n = min size (length places) in take n places ≡ take n (places_kept a)) →
    let g = a.kept in
    in_turn (page_part a.source a.text g a.marks a.numbers a.starts places size line)
    (page_size g.count size)
    ≡ title_text line
    ++ (in_turn (λ (k : ℕ). field_account g.sheet.inputs g.opened a.marks a.numbers g.count (suc k)) 15
    ++ (drafts_head
    ++ (drafts_text a.marks a.numbers g.count g.count
    ++ (cond (no_drafts a.marks a.numbers g.count) none_line []
    ++ (shorter_head ++ (shorter_text a ++ (sheet_head ++ sheet_account a.source g.sheet)))))))
unfolding drafts_text
page_whole a places size line room count held =
    let g = a.kept in
    let title = title_text line in
    let fields = in_turn (λ (k : ℕ). field_account g.sheet.inputs g.opened a.marks a.numbers g.count (suc k)) 15 in
    let lines = in_turn (λ (p : ℕ). draft_account a.marks a.numbers g.count p) g.count in
    let none = cond (no_drafts a.marks a.numbers g.count) none_line [] in
    let end = sheet_head ++ sheet_account a.source g.sheet in
    parts_whole a.source a.text g a.marks a.numbers a.starts places size line
    ∙ ap
    (λ (calls : List ℕ).
    title
    ++ (fields ++ (drafts_head ++ (lines ++ (none ++ (shorter_head ++ ((line_account a.text g.start ++ calls) ++ end)))))))
    (page_calls a places size room count held)
