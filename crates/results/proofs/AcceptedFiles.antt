-- The statements of specs/AcceptedFiles.antt, each from where the work is done. Assumes nothing.
use Rattle.std.proofs.Common.{◌∙◌, arith}
use Rattle.base.proofs.ladder.Indexing
use Rattle.base.proofs.layout.Parts
use Rattle.results.specs.AcceptedFiles.{MonthFileGood, EndedRefused, MarkerRefused, FileAnswers, RecordWordsGood, MonthWordsGood, RecordWordRefused, MonthWordRefused, FileWordRefused, IndexRefusedLast, FilesGood, IndexGood, IndexRefused, VirtimInside, VersyInside, MonthFileAccepted, IndexAccepted, FilesAccepted, FileOfBytes, SheetShown, SheetWritten, TablesPacked, TwentyTables, PlanesFill, TableInside, MonthInside, ZeroThere, ThereZero, MonthAccepted, MonthZero, TableCheckLater, TableBytesLater, MonthCheckLater, MonthBytesLater, CutAnywhere, TablePartLater, MonthPartLater}
use Rattle.results.proofs.files.Marks
use Rattle.results.proofs.files.WalkAnswers
use Rattle.results.proofs.files.IndexAnswers
use Rattle.results.proofs.files.FirstOthers
use Rattle.results.proofs.files.GoodFiles
use Rattle.results.proofs.files.Places
use Rattle.results.proofs.files.MonthRecords
use Rattle.results.proofs.files.LaterParts
use Rattle.results.proofs.sheet.GoodSheet

-- ---- the month file's check

pub month_file_good : MonthFileGood
month_file_good = Marks.month_file_good

pub ended_refused : EndedRefused
ended_refused = WalkAnswers.ended_refused

pub marker_refused : MarkerRefused
marker_refused = WalkAnswers.marker_refused

pub file_answers : FileAnswers
file_answers = WalkAnswers.file_answers

pub cut_anywhere : CutAnywhere
cut_anywhere = WalkAnswers.cut_anywhere

-- ---- the words of the tables

pub record_words_good : RecordWordsGood
record_words_good = FirstOthers.record_words_good

pub month_words_good : MonthWordsGood
month_words_good = FirstOthers.month_words_good

pub record_word_refused : RecordWordRefused
record_word_refused = FirstOthers.record_word_refused WalkAnswers.file_answers

pub month_word_refused : MonthWordRefused
month_word_refused = FirstOthers.month_word_refused WalkAnswers.file_answers

pub file_word_refused : FileWordRefused
file_word_refused = FirstOthers.file_word_refused WalkAnswers.file_answers

pub index_refused_last : IndexRefusedLast
index_refused_last = FirstOthers.index_refused_last WalkAnswers.file_answers

pub files_good : FilesGood
files_good = FirstOthers.files_good

-- ---- the index check

pub index_good : IndexGood
index_good = IndexAnswers.index_good

pub index_refused : IndexRefused
index_refused = IndexAnswers.index_refused

pub virtim_inside : VirtimInside
virtim_inside month passed k l j h a b =
    let v = Indexing.virtim_inside month passed k l j h (omega arith) b in
    record { own = v.own; all = v.all; own_result = v.own_result; result = v.result }

pub versy_inside : VersyInside
versy_inside = Indexing.versy_inside

-- ---- files that are accepted

pub month_file_accepted : MonthFileAccepted
month_file_accepted = GoodFiles.month_file_accepted

pub index_accepted : IndexAccepted
index_accepted = GoodFiles.index_accepted

pub files_accepted : FilesAccepted
files_accepted = GoodFiles.files_accepted

pub file_of_bytes : FileOfBytes
file_of_bytes = GoodFiles.file_of_bytes

pub sheet_shown_law : SheetShown
sheet_shown_law = GoodSheet.sheet_shown_law

pub sheet_written : SheetWritten
sheet_written = GoodSheet.sheet_written

-- ---- the tables' places

pub tables_packed : TablesPacked
tables_packed = Places.tables_packed

pub twenty_tables : TwentyTables
twenty_tables = Places.twenty_tables

pub planes_fill : PlanesFill
planes_fill = Places.planes_fill

-- ---- Table and Month record

pub table_inside : TableInside
table_inside number f m e = let p = Parts.table_inside number f m e in (p.some, p.inside)

pub month_inside : MonthInside
month_inside = MonthRecords.month_inside

pub zero_there : ZeroThere
zero_there number f m e =
    let t = Parts.zero_there number f m e in record { known = t.known; planes = t.planes; walked = t.walked }

pub there_zero : ThereZero
there_zero number f m t =
    Parts.there_zero number f m (record { known = t.known; planes = t.planes; walked = t.walked })

pub month_there : MonthAccepted
month_there s m t = MonthRecords.month_there s m (record { low = t.low; high = t.high; room = t.room })

pub month_zero : MonthZero
month_zero s m = (
  λ e. let t = (MonthRecords.month_zero s m).0 e in record { low = t.low; high = t.high; room = t.room },
  λ t. (MonthRecords.month_zero s m).1 (record { low = t.low; high = t.high; room = t.room }),
)

-- ---- later bytes

pub table_check_later : TableCheckLater
table_check_later number f g s t b a =
    LaterParts.table_record_later number f g s b ∙ LaterParts.table_month_later number g s t a

pub table_part_later : TablePartLater
table_part_later = LaterParts.table_part_later

pub table_bytes_later : TableBytesLater
table_bytes_later = LaterParts.table_bytes_later

pub month_check_later : MonthCheckLater
month_check_later = LaterParts.month_check_later

pub month_part_later : MonthPartLater
month_part_later = LaterParts.month_part_later

pub month_bytes_later : MonthBytesLater
month_bytes_later = LaterParts.month_bytes_later
