-- What can be shown from a year file: a line for a month and a model, for people. Assumes nothing.
use Rattle.std.specs.Prelude.{ℕ, cond, List, ◌++◌, eqb, Err, Ok}
use Prim.Native.String.{String}
use Rattle.base.specs.declared.refusal.Refusal.{Refusal}
use Rattle.base.specs.Refusal.{Verdict}
use Rattle.worksheet.specs.Showing.{year_files_check}
use Rattle.wording.specs.Token.{ascii}
use Rattle.listing.specs.Text.{decimal_of}
use Rattle.listing.specs.Reason.{refused_words}

-- '(0 CCIR, 1 URSI)'
abbrev pub model_name : ℕ → String
model_name model = cond (eqb model 0) "CCIR" (cond (eqb model 1) "URSI" "no model")

abbrev pub found_text : Verdict → List ℕ
found_text (Ok _) = ascii "can be shown"
found_text (Err why) = refused_words why

-- the line of a refusal by itself
unfoldable pub refused_line : Refusal → List ℕ
refused_line why = refused_words why ++ ascii "\n"

-- as `month 6, URSI: can be shown`
unfoldable pub survey_line : List ℕ → ℕ → ℕ → List ℕ
survey_line s month model =
    ascii "month "
    ++ (decimal_of month
    ++ (ascii ", "
    ++ (ascii (model_name model)
    ++ (ascii ": " ++ (found_text (year_files_check s month model) ++ ascii "\n")))))
