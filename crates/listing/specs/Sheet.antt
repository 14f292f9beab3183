-- The program `sheet`: its text from 14 words, a record and a month file, and the page of `sheet
-- page`. Assumes nothing.
use Rattle.base.specs.declared.refusal.Refusal.{Refusal}
use Rattle.std.specs.Prelude.{ℕ, List, Float, Err, Ok, Result}
use Rattle.maps.specs.declared.inputs.Inputs.{Inputs}
use Rattle.worksheet.specs.Desks.{sheet_opened_of}
use Rattle.worksheet.specs.Showing.{pair, show_of, show_buffer}
use Rattle.listing.specs.Answer.{refusal_text, sheet_text}
use Rattle.listing.specs.Page.{page_text}
use Rattle.listing.specs.Turn.{blank}

-- 'It prints 151 lines ..; a refusal is one line'
unfoldable pub sheet_answer : List ℕ → List ℕ → List ℕ → List ℕ
sheet_answer words f2 file =
    let w = (sheet_opened_of words).sheet in
    sheet_text (show_of (pair f2 file) 0 blank w) (show_buffer (pair f2 file) 0 blank w)

unfoldable pub page_for : Inputs → Result ℕ Refusal → List Float → List ℕ
page_for i (Ok count) figures = page_text i count figures
page_for i (Err why) figures = refusal_text why

-- the page, or the line of the refusal
unfoldable pub page_answer : List ℕ → List ℕ → List ℕ → List ℕ
page_answer words f2 file =
    let w = (sheet_opened_of words).sheet in
    page_for w.inputs (show_of (pair f2 file) 0 blank w) (show_buffer (pair f2 file) 0 blank w)
