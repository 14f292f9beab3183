-- The lines of an audit's page, for people: where a field comes from, what became of a draft that is not
-- in the sheet, and the headings. Assumes nothing.
use Rattle.std.specs.Prelude.{ℕ, cond, ◌&&◌, List, [], ◌++◌, leb, None, Option, Some}
use Rattle.maps.specs.declared.inputs.Inputs.{Inputs}
use Rattle.wording.specs.Token.{ascii}
use Rattle.listing.specs.declared.account.Came.{Came}
use Rattle.listing.specs.declared.account.Came.TheVariants.{Opened, Set}
use Rattle.listing.specs.declared.account.Became.{Became}
use Rattle.listing.specs.declared.account.Became.TheVariants.{TakenBack, Cancelled, Never}
use Rattle.listing.specs.Text.{decimal_of}
use Rattle.listing.specs.Fields.{field_text}

-- ` at line 12`, the number being that of the journal's line
unfoldable pub at_line : ℕ → List ℕ
at_line line = ascii " at line " ++ decimal_of line

-- ---- where a field comes from

unfoldable pub came_words : Came → List ℕ
came_words (Opened line) = ascii "opened" ++ at_line line
came_words (Set desk line settled) =
    ascii "set by desk " ++ (decimal_of desk ++ (at_line line ++ (ascii ", settled" ++ at_line settled)))

-- field k, from 1 to 15, after it two blanks and where it comes from
unfoldable pub came_text : Inputs → ℕ → Came → List ℕ
came_text i k came = field_text i k ++ (ascii "  " ++ (came_words came ++ ascii "\n"))

-- the same for any k: there is no line of a field that is none
unfoldable pub came_line : Inputs → ℕ → Came → List ℕ
came_line i k came = cond (leb 1 k && leb k 15) (came_text i k came) []

-- ---- what became of a draft

unfoldable pub became_words : Became → List ℕ
became_words (TakenBack committed back) =
    ascii "committed" ++ (at_line committed ++ (ascii ", taken back" ++ at_line back))
became_words (Cancelled line) = ascii "cancelled" ++ at_line line
became_words Never = ascii "not committed by then"

-- where a commit of it was refused: `refused at line 6, `
unfoldable pub balked_words : Option ℕ → List ℕ
balked_words None = []
balked_words (Some line) = ascii "refused" ++ (at_line line ++ ascii ", ")

-- as `desk 2, begun at line 5: cancelled at line 7`
unfoldable pub draft_line : ℕ → ℕ → Option ℕ → Became → List ℕ
draft_line desk begun balked became =
    ascii "desk "
    ++ (decimal_of desk
    ++ (ascii ", begun"
    ++ (at_line begun ++ (ascii ": " ++ (balked_words balked ++ (became_words became ++ ascii "\n"))))))

-- ---- the headings

-- as `audit of line 9: the worksheet as it was shown there`, and over the fields
unfoldable pub title_text : ℕ → List ℕ
title_text line =
    ascii "audit of line "
    ++ (decimal_of line ++ ascii ": the worksheet as it was shown there\n\nwhere its inputs come from:\n")

abbrev pub drafts_head : List ℕ
drafts_head = ascii "\ndrafts that are not in it:\n"

-- in the place of the drafts' lines, where there is none
abbrev pub none_line : List ℕ
none_line = ascii "none\n"

abbrev pub shorter_head : List ℕ
shorter_head = ascii "\nthe shorter journal, which gives the same sheet:\n"

abbrev pub sheet_head : List ℕ
sheet_head = ascii "\nthe sheet:\n"
