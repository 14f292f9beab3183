-- The parts of an audit's page by their numbers, and which is the last: by the tests on the number.
-- Assumes nothing.
use Rattle.std.proofs.Common.{ℕ, zero, suc, ◌+◌, ◌-◌, ◌<◌, ◌≤◌, Bool, true, false, cond, List, [], ◌≡◌, refl, sym, ap, subst, ◌∙◌, arith, leb, length, take, length-append, leb-true, leb-false, lt-ltb, le-ltb, le-leb, eq-eqb, ne_eqb}
use Rattle.io.specs.Counts.{IsPrefixLen}
use Rattle.base.proofs.verdicts.Picks.{cond_true, cond_false}
use Rattle.worksheet.specs.Showing.{Source}
use Rattle.listing.specs.Account.{title_text, drafts_head, none_line, shorter_head, sheet_head}
use Rattle.listing.specs.Fields.{in_turn}
use Rattle.auditing.specs.declared.gathering.Gathered.{Gathered}
use Rattle.auditing.specs.declared.page.Part.{Part}
use Rattle.auditing.specs.Accounts.{number_at, field_account, draft_account, line_account, sheet_account}
use Rattle.auditing.specs.Page.{drafts_text, no_drafts, fields_part, sheet_part, shorter_part, drafts_part, page_part}

-- ---- tests

pub leb_same : (a b c d : ℕ) → (a ≤ b → c ≤ d) → (c ≤ d → a ≤ b) → leb a b ≡ leb c d
leb_same a b c d to from = go (leb a b) refl
  where
    go : (t : Bool) → leb a b ≡ t → t ≡ leb c d
    go true e = sym (le-leb c d (to (leb-true a b e)))
    go false e =
        let above = leb-false a b e in
        other (leb c d) refl
      where
        other : (t : Bool) → leb c d ≡ t → false ≡ t
        other true q = let x = from (leb-true c d q) in let y = leb-false a b e in absurd (omega arith)
        other false q = refl

-- ---- what a part is, with its text known

pub part_as :
    (l : List ℕ) {r : Part} {n : ℕ} {last want : Bool} {piece part : List ℕ} → r ≡ record { size = n; last = last } →
    take n l ≡ piece → piece ≡ part → last ≡ want → IsPrefixLen n l →
    record { text : take r.size l ≡ part; last : r.last ≡ want; count : IsPrefixLen r.size l }
part_as l {want} {part} e t p w count =
    subst (λ (x : Part). record { text : take x.size l ≡ part; last : x.last ≡ want; count : IsPrefixLen x.size l }) (sym e)
    (record { text = t ∙ p; last = w; count = count })

-- ---- no line of a draft

module _ (marks numbers : List ℕ) (count : ℕ) where
  abbrev lines : ℕ → ℕ
  lines p = length (drafts_text marks numbers count p)

  pub lines_none : lines 0 ≡ 0
  unfolding drafts_text in_turn
  lines_none = refl

  pub lines_next : (p : ℕ) → lines (suc p) ≡ lines p + length (draft_account marks numbers count p)
  unfolding drafts_text in_turn
  lines_next p = length-append (drafts_text marks numbers count p) (draft_account marks numbers count p)

  lines_grow : (p k : ℕ) → lines p ≤ lines (p + k)
  lines_grow p zero = omega (arith, ap lines (add_zero_right p))
    where
      add_zero_right : (m : ℕ) → m + 0 ≡ m
      add_zero_right m = omega arith
  lines_grow p (suc k) =
      let e : p + suc k ≡ suc (p + k) = omega arith in
      omega (arith, lines_grow p k, ap lines e, lines_next (p + k))

  -- the first p calls have none, and the next has one
  pub some_draft : (p : ℕ) → p < count → 0 < length (draft_account marks numbers count p) → false ≡ no_drafts marks numbers count
  unfolding no_drafts
  some_draft p h some =
      let e : suc p + (count - suc p) ≡ count = omega arith in
      let most : lines (suc p) ≤ lines count = omega (arith, lines_grow (suc p) (count - suc p), ap lines e) in
      sym (ne_eqb (lines count) 0 (λ q. omega (arith, most, lines_next p, some, q)))

  pub no_draft : (p : ℕ) → count ≤ p → p ≤ count → lines p ≡ 0 → true ≡ no_drafts marks numbers count
  unfolding no_drafts
  no_draft p h q none =
      let e : p ≡ count = omega arith in
      sym (eq-eqb (lines count) 0 (ap lines (sym e) ∙ none))

-- ---- which part it is

module _ (line : ℕ) (g : Gathered) (marks numbers : List ℕ) (k : ℕ) where
  pub fields_title : k ≡ 0 → title_text line ≡ fields_part line g marks numbers k
  unfolding fields_part
  fields_title h = sym (cond_true _ _ (eq-eqb k 0 h))

  pub fields_field :
      (k ≡ 0 → ⊥) →
      field_account g.sheet.inputs g.opened marks numbers g.count k ≡ fields_part line g marks numbers k
  unfolding fields_part
  fields_field h = sym (cond_false _ _ (ne_eqb k 0 h))

module _ (source : Source) (g : Gathered) (k : ℕ) where
  pub sheet_head_law : k ≡ 0 → sheet_head ≡ sheet_part source g k
  unfolding sheet_part
  sheet_head_law h = sym (cond_true _ _ (eq-eqb k 0 h))

  pub sheet_itself : k ≡ 1 → sheet_account source g.sheet ≡ sheet_part source g k
  unfolding sheet_part
  sheet_itself h = sym (cond_false _ _ (ne_eqb k 0 (λ q. omega arith)) ∙ cond_true _ _ (eq-eqb k 1 h))

  pub sheet_past : (k ≡ 0 → ⊥) → (k ≡ 1 → ⊥) → [] ≡ sheet_part source g k
  unfolding sheet_part
  sheet_past h q = sym (cond_false _ _ (ne_eqb k 0 h) ∙ cond_false _ _ (ne_eqb k 1 q))

module _ (source : Source) (text : List ℕ) (g : Gathered) (starts places : List ℕ) (size k : ℕ) where
  abbrev shorter_here : List ℕ
  shorter_here = shorter_part source text g starts places size k

  pub shorter_head_law : k ≡ 0 → shorter_head ≡ shorter_here
  unfolding shorter_part
  shorter_head_law h = sym (cond_true _ _ (eq-eqb k 0 h))

  pub shorter_open : k ≡ 1 → line_account text g.start ≡ shorter_here
  unfolding shorter_part
  shorter_open h = sym (cond_false _ _ (ne_eqb k 0 (λ q. omega arith)) ∙ cond_true _ _ (eq-eqb k 1 h))

  pub shorter_call :
      2 ≤ k → k - 2 < size → line_account text (number_at starts (number_at places (k - 2))) ≡ shorter_here
  unfolding shorter_part
  shorter_call h q =
      sym (
      cond_false _ _ (ne_eqb k 0 (λ e. omega arith))
      ∙ cond_false _ _ (ne_eqb k 1 (λ e. omega arith))
      ∙ cond_true _ _ (lt-ltb (k - 2) size q)
      )

  pub shorter_rest : 2 ≤ k → size ≤ k - 2 → sheet_part source g (k - 2 - size) ≡ shorter_here
  unfolding shorter_part
  shorter_rest h q =
      sym (
      cond_false _ _ (ne_eqb k 0 (λ e. omega arith))
      ∙ cond_false _ _ (ne_eqb k 1 (λ e. omega arith))
      ∙ cond_false _ _ (le-ltb (k - 2) size q)
      )

module _ (source : Source) (text : List ℕ) (g : Gathered) (marks numbers starts places : List ℕ) (size k : ℕ) where
  abbrev drafts_here : List ℕ
  drafts_here = drafts_part source text g marks numbers starts places size k

  pub drafts_head_law : k ≡ 0 → drafts_head ≡ drafts_here
  unfolding drafts_part
  drafts_head_law h = sym (cond_true _ _ (eq-eqb k 0 h))

  pub drafts_line : 1 ≤ k → k - 1 < g.count → draft_account marks numbers g.count (k - 1) ≡ drafts_here
  unfolding drafts_part
  drafts_line h q = sym (cond_false _ _ (ne_eqb k 0 (λ e. omega arith)) ∙ cond_true _ _ (lt-ltb (k - 1) g.count q))

  pub drafts_none :
      1 ≤ k → g.count ≤ k - 1 → k - 1 - g.count ≡ 0 →
      cond (no_drafts marks numbers g.count) none_line [] ≡ drafts_here
  unfolding drafts_part
  drafts_none h q e =
      sym (
      cond_false _ _ (ne_eqb k 0 (λ x. omega arith))
      ∙ cond_false _ _ (le-ltb (k - 1) g.count q)
      ∙ cond_true _ _ (eq-eqb (k - 1 - g.count) 0 e)
      )

  pub drafts_rest :
      1 ≤ k → g.count ≤ k - 1 → (k - 1 - g.count ≡ 0 → ⊥) →
      shorter_part source text g starts places size (k - 1 - g.count - 1) ≡ drafts_here
  unfolding drafts_part
  drafts_rest h q e =
      sym (
      cond_false _ _ (ne_eqb k 0 (λ x. omega arith))
      ∙ cond_false _ _ (le-ltb (k - 1) g.count q)
      ∙ cond_false _ _ (ne_eqb (k - 1 - g.count) 0 e)
      )

  pub page_fields : (line : ℕ) → k < 16 → fields_part line g marks numbers k ≡ page_part source text g marks numbers starts places size line k
  unfolding page_part
  page_fields line h = sym (cond_true _ _ (lt-ltb k 16 h))

  pub page_drafts :
      (line : ℕ) → 16 ≤ k →
      drafts_part source text g marks numbers starts places size (k - 16)
      ≡ page_part source text g marks numbers starts places size line k
  unfolding page_part
  page_drafts line h = sym (cond_false _ _ (le-ltb k 16 h))
