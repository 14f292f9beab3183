-- A year file: each statement of specs/OneYear.antt, from where the work is done. Assumes nothing.
use Rattle.std.proofs.Common.{List, refl, Float, ℕ}
use Rattle.maps.specs.declared.inputs.Inputs.{Inputs}
use Rattle.maps.specs.Figures.{hour_from, hour_of, point_row, figure_row, figures_to, sheet_path, figures_of}
use Rattle.worksheet.specs.Inputs.{edited}
use Rattle.worksheet.specs.Showing.{yearly}
use Rattle.worksheet.specs.Journal.{Entry}
use Rattle.worksheet.specs.InForce.{changed, Insured}
use Rattle.worksheet.proofs.lists.Rules as Rules
use Rattle.jutetrowel.proofs.lists.Carried as Carried
use Rattle.results.specs.OneYear.{YearGood, YearRefused, YearAnswers, PartsInside, PartsApart, PackedAccepted, PackedParts, OneMonthOneModel, DemandThreeYear, DemandThreeYearOver, InsuredInYear, InsurersSentenceYear, InsurersSentenceYearOver, InsurersSentenceYearHanded, YearFilesExactly, YearShowingExactly, YearAlwaysShown, PackedShown, GoodYearShown, GoodYearBytes, DecemberShown, SheetOpenedFirst, ModelOnlyPicks}
use Rattle.results.proofs.files.YearDirectory as Directory
use Rattle.results.proofs.files.PackedYear as Packed
use Rattle.results.proofs.sheet.GoodYear as Good
use Rattle.results.proofs.sheet.OwnParts as Own
use Rattle.results.proofs.sheet.YearExactly as Exactly
use Rattle.results.proofs.sheet.PackedShown as All
use Rattle.results.proofs.sheet.December as December
use Rattle.results.proofs.sheet.SheetWords as Words
use Rattle.results.proofs.sheet.HandedBack as HandedBack
use Rattle.results.proofs.force.Unbroken as Unbroken
use Rattle.results.proofs.force.InsuredOver as Over

pub year_good : YearGood
year_good = Directory.year_good

pub year_refused : YearRefused
year_refused = Directory.year_refused

pub year_answers : YearAnswers
year_answers = Directory.year_answers

pub parts_inside : PartsInside
parts_inside = Directory.parts_inside

pub parts_apart : PartsApart
parts_apart = Directory.parts_apart

pub packed_accepted : PackedAccepted
packed_accepted = Packed.packed_accepted

pub packed_parts : PackedParts
packed_parts = Packed.packed_parts

pub year_files_exactly : YearFilesExactly
year_files_exactly = Exactly.year_files_exactly

pub year_showing_exactly : YearShowingExactly
year_showing_exactly = Exactly.year_showing_exactly

pub one_month_one_model : OneMonthOneModel
one_month_one_model = Own.one_month_one_model

pub demand_3_year : DemandThreeYear
demand_3_year s = Rules.demand_3 (yearly s)

pub demand_3_year_over : DemandThreeYearOver
demand_3_year_over s = Carried.demand_3_over (yearly s)

-- the set of an insured showing is of one month, one model and their own two parts
in_year : (s : List ℕ) (start : Inputs) (entries : List Entry) (count : ℕ) (figures : List Float) →
    Insured (yearly s) start entries count figures → InsuredInYear s start entries count figures
in_year s start entries count figures h =
    record { insured = h; own_parts = Own.figures_own_parts s (changed start h.edits) count figures h.one_set }

pub insurers_sentence_year : InsurersSentenceYear
insurers_sentence_year s opened h cs before later lent figures count e =
    in_year s opened before count figures
    (Unbroken.insurers_sentence (yearly s) opened h cs before later lent figures count e)

pub insurers_sentence_year_over : InsurersSentenceYearOver
insurers_sentence_year_over s words lent h cs k before later buffer figures count e =
    in_year s _ before count figures
    (Over.insurers_sentence_opened (yearly s) words lent h cs k before later buffer figures count e)

pub insurers_sentence_year_handed : InsurersSentenceYearHanded
insurers_sentence_year_handed s words lent h cs k buffer figures r given zero =
    in_year s _ _ r.points figures
    (HandedBack.insurers_sentence_handed (yearly s) words lent h cs k buffer figures r given zero)

pub year_always_shown : YearAlwaysShown
year_always_shown = Own.year_always_shown

pub packed_shown : PackedShown
packed_shown parts n = (All.all_shown parts n, All.each_good parts n)

pub good_year_shown : GoodYearShown
good_year_shown = Good.good_year_shown

pub good_year_bytes : GoodYearBytes
good_year_bytes = Good.good_year_bytes

pub december_shown : DecemberShown
december_shown = December.december

pub sheet_opened_first : SheetOpenedFirst
sheet_opened_first = Words.sheet_opened_first

pub model_only_picks : ModelOnlyPicks
unfolding sheet_path figures_of figures_to figure_row point_row hour_of hour_from edited
model_only_picks f2 file i m = (refl, refl)
