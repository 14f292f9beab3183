-- Sheets that are shown: with the record and the month file that base exhibits every inputs are
-- answered with their points, and the buffer is the figures, so that no law about a sheet that is
-- shown is empty. Assumes nothing.
use Rattle.std.proofs.Common.{Ok, ◌≡◌, ap, List, Float}
use Rattle.base.specs.Refusal.{Verdict}
use Rattle.results.specs.ExhibitedFiles.{good_record, good_month_file}
use Rattle.results.proofs.files.GoodFiles.{files_accepted}
use Rattle.maps.specs.declared.inputs.Inputs.{Inputs}
use Rattle.maps.specs.Figures.{sheet_path, figures_of, points_or, shown_of, figures_buffer}
use Rattle.maps.proofs.sheet.Alone.{all_written}

module _ (x : Inputs) where
  pub sheet_shown_law : shown_of good_record good_month_file x ≡ Ok (sheet_path x).count
  unfolding shown_of
  sheet_shown_law = ap (λ (v : Verdict). points_or v (sheet_path x).count) files_accepted

  pub sheet_written : (out : List Float) → figures_buffer good_record good_month_file x out ≡ figures_of good_record good_month_file x
  sheet_written out = all_written good_record good_month_file x out files_accepted
