-- The worksheet that a call leaves does not depend on the files lent, by the call's case. Assumes nothing.
use Rattle.std.proofs.Common.{List, ◌≡◌, refl, Float}
use Rattle.worksheet.specs.declared.desks.Worksheet.{Worksheet}
use Rattle.worksheet.specs.declared.journal.Call.{Call}
use Rattle.worksheet.specs.declared.journal.Call.TheVariants.{Begin, Change, Commit, Cancel, TakeBack, Show}
use Rattle.worksheet.specs.Showing.{Source}
use Rattle.worksheet.specs.Journal.{step}
use Rattle.worksheet.specs.Calls.{called}

pub step_sheet : (source other : Source) (lent : List Float) (c : Call) (w : Worksheet)
    → (step source (called c lent) w).sheet ≡ (step other (called c lent) w).sheet
unfolding step
step_sheet source other lent (Begin n) w = refl
step_sheet source other lent (Change n e) w = refl
step_sheet source other lent (Commit n) w = refl
step_sheet source other lent (Cancel n) w = refl
step_sheet source other lent TakeBack w = refl
step_sheet source other lent (Show n) w = refl
