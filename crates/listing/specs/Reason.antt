-- Why something is refused, in words; docs/REFUSALS.md says more. Assumes nothing.
use Rattle.std.specs.Prelude.{ℕ, List, ◌++◌}
use Prim.Native.String.{String}
use Rattle.base.specs.declared.refusal.Refusal.{Refusal}
use Rattle.base.specs.declared.refusal.Refusal.TheVariants.{Month, Sunspot, Hour, Latitude, Longitude, Factor, Flag, Model, Record, Ended, Marker, RecordWord, MonthWord, Index, Figures, Table, Desk, Drafted, NoDraft, Stale, NothingEarlier, Year}
use Rattle.base.specs.Refusal.{report_of}
use Rattle.wording.specs.Token.{ascii}
use Rattle.listing.specs.Text.{decimal_of}

abbrev pub reason_of : Refusal → String
reason_of Month = "the month is not 1 to 12"
reason_of Sunspot = "the sunspot number is not 0 to 300"
reason_of Hour = "the hour is not 0 to 24"
reason_of (Latitude field) = "a latitude is not -90 to 90 degrees"
reason_of (Longitude field) = "a longitude is not -180 to 180 degrees"
reason_of (Factor field) = "a factor is not 0.125 to 8"
reason_of Flag = "the long-path flag is neither 0 nor 1"
reason_of Model = "the F2 model is neither CCIR nor URSI"
reason_of Record = "the F2 record of the month is not whole"
reason_of (Ended at) = "the month file ends too early"
reason_of (Marker at) = "the month file has a wrong marker at this byte"
reason_of (RecordWord at) = "the F2 planes have no finite number at this byte"
reason_of (MonthWord at) = "the month file has no finite number at this byte"
reason_of (Index map) = "the month file has a bad index table for this map"
reason_of Figures = "the buffer has not 151 numbers"
reason_of Table = "there is no such table"
reason_of Desk = "there is no such desk"
reason_of Drafted = "the desk has a draft already"
reason_of NoDraft = "the desk has no draft"
reason_of Stale = "the worksheet has moved since the draft began"
reason_of NothingEarlier = "there is nothing to take back"
reason_of (Year pair) = "the year file has a bad directory at this pair"

-- number, place and reason, as `refused 8 0: the F2 record of the month is not whole`
unfoldable pub refused_words : Refusal → List ℕ
refused_words why =
    ascii "refused "
    ++ (decimal_of (report_of why).0
    ++ (ascii " " ++ (decimal_of (report_of why).1 ++ (ascii ": " ++ ascii (reason_of why)))))
