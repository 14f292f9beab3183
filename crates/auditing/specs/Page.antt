-- THE PAGE of an audit, part after part: printed one after the other, up to the last, they are the page.
-- Assumes nothing.
use Rattle.std.specs.Prelude.{ℕ, ◌+◌, ◌-◌, Bool, cond, List, [], eqb, ltb, length}
use Rattle.worksheet.specs.Showing.{Source}
use Rattle.listing.specs.Account.{title_text, drafts_head, none_line, shorter_head, sheet_head}
use Rattle.listing.specs.Fields.{in_turn}
use Rattle.auditing.specs.declared.gathering.Gathered.{Gathered}
use Rattle.auditing.specs.Accounts.{number_at, field_account, draft_account, line_account, sheet_account}

-- the lines of the drafts that are not in the sheet, those of the calls at the places 0, 1, ..
unfoldable pub drafts_text : List ℕ → List ℕ → ℕ → ℕ → List ℕ
drafts_text marks numbers count k = in_turn (λ (p : ℕ). draft_account marks numbers count p) k

-- and where there is none of them
unfoldable pub no_drafts : List ℕ → List ℕ → ℕ → Bool
no_drafts marks numbers count = eqb (length (drafts_text marks numbers count count)) 0

-- how many parts there are: the sheet with its heading; before it the shorter journal's heading, its open
-- and `size` calls; before that the drafts' heading, `count` calls and `none` or nothing; before that the
-- title and 15 fields
abbrev pub sheet_parts : ℕ
sheet_parts = 2

abbrev pub shorter_parts : ℕ → ℕ
shorter_parts size = 2 + size + sheet_parts

abbrev pub drafts_parts : ℕ → ℕ → ℕ
drafts_parts count size = 1 + count + 1 + shorter_parts size

abbrev pub page_size : ℕ → ℕ → ℕ
page_size count size = 16 + drafts_parts count size

-- the title, then the 15 fields, of a journal audited at this line
unfoldable pub fields_part : ℕ → Gathered → List ℕ → List ℕ → ℕ → List ℕ
fields_part line g marks numbers k =
    cond (eqb k 0) (title_text line) (field_account g.sheet.inputs g.opened marks numbers g.count k)

-- at the end the sheet
unfoldable pub sheet_part : Source → Gathered → ℕ → List ℕ
sheet_part source g k = cond (eqb k 0) sheet_head (cond (eqb k 1) (sheet_account source g.sheet) [])

-- before it the shorter journal: the open, and the calls at the places, which are `size` many
unfoldable pub shorter_part : Source → List ℕ → Gathered → List ℕ → List ℕ → ℕ → ℕ → List ℕ
shorter_part source text g starts places size k =
    let j = k - 2 in
    cond (eqb k 0) shorter_head
    (cond (eqb k 1) (line_account text g.start)
    (cond (ltb j size) (line_account text (number_at starts (number_at places j))) (sheet_part source g (j - size))))

module _ (source : Source) (text : List ℕ) (g : Gathered) (marks numbers starts places : List ℕ) (size : ℕ) where
  -- before that the drafts that are not in it, or `none`
  unfoldable pub drafts_part : ℕ → List ℕ
  drafts_part k =
      let j = k - 1 in
      let rest = j - g.count in
      cond (eqb k 0) drafts_head
      (cond (ltb j g.count) (draft_account marks numbers g.count j)
      (cond (eqb rest 0) (cond (no_drafts marks numbers g.count) none_line [])
      (shorter_part source text g starts places size (rest - 1))))

  -- PART k OF THE PAGE of a line; nothing past its end
  unfoldable pub page_part : ℕ → ℕ → List ℕ
  page_part line k = cond (ltb k 16) (fields_part line g marks numbers k) (drafts_part (k - 16))
