-- The sitting that lines leave does not depend on the files lent nor on the lines' numbers: by what
-- each line is, and by the lines in their order. Assumes nothing.
use Rattle.std.proofs.Common.{ℕ, suc, List, [], ◌∷◌, ◌≡◌, refl, ap, ◌∙◌}
use Rattle.worksheet.specs.declared.desks.Worksheet.{Worksheet}
use Rattle.worksheet.specs.Showing.{Source}
use Rattle.wording.specs.declared.line.Fault.{Fault}
use Rattle.wording.specs.declared.line.Line.{Line}
use Rattle.wording.specs.declared.line.Line.TheVariants.{Blank, Open, Call, Wrong}
use Rattle.wording.specs.declared.written.WrittenCall.{WrittenCall}
use Rattle.wording.specs.declared.written.WrittenInputs.{WrittenInputs}
use Rattle.wording.specs.Line.{line_in}
use Rattle.wording.specs.Written.{call_written}
use Rattle.listing.specs.Turn.{blank}
use Rattle.sitting.specs.declared.Sitting.{Sitting}
use Rattle.sitting.specs.declared.Sitting.TheVariants as stage
use Rattle.sitting.specs.Sitting.{hear_open, hear_wrong, hear_call, hear_line, hearing}
use Rattle.sitting.proofs.sources.Sheets.{step_sheet}
use Rattle.results.specs.Heard.{heard_from}

open_same :
    (n m : ℕ) (o : WrittenInputs) (s : Sitting) → (hear_open n o s).sitting ≡ (hear_open m o s).sitting
open_same n m o (stage.Waiting w) = refl
open_same n m o (stage.Open w) = refl
open_same n m o (stage.Ended w) = refl

wrong_same :
    (n m : ℕ) (f : Fault) (s : Sitting) → (hear_wrong n f s).sitting ≡ (hear_wrong m f s).sitting
wrong_same n m f (stage.Waiting w) = refl
wrong_same n m f (stage.Open w) = refl
wrong_same n m f (stage.Ended w) = refl

module _ (source other : Source) where
  call_same :
      (n m : ℕ) (c : WrittenCall) (s : Sitting) →
      (hear_call source n c s).sitting ≡ (hear_call other m c s).sitting
  call_same n m c (stage.Waiting w) = refl
  call_same n m c (stage.Open w) =
      ap (λ (x : Worksheet). stage.Open x) (step_sheet source other blank (call_written c) w)
  call_same n m c (stage.Ended w) = refl

  line_same :
      (n m : ℕ) (s : Sitting) (l : Line) → (hear_line source n s l).sitting ≡ (hear_line other m s l).sitting
  line_same n m s Blank = refl
  line_same n m s (Open o) = open_same n m o s
  line_same n m s (Call c) = call_same n m c s
  line_same n m s (Wrong f) = wrong_same n m f s

  pub silent_same :
      (n m : ℕ) (s : Sitting) (ls : List (List ℕ)) →
      (heard_from source n s ls).sitting ≡ (heard_from other m s ls).sitting
  unfolding heard_from hearing
  silent_same n m s [] = refl
  silent_same n m s (l ∷ ls) =
      silent_same (suc n) (suc m) (hearing source n s l).sitting ls
      ∙ ap (λ (t : Sitting). (heard_from other (suc m) t ls).sitting) (line_same n m s (line_in l))
