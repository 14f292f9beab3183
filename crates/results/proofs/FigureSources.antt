-- What the figures come from: each statement of specs/FigureSources.antt, from where the work is
-- done. Assumes nothing.
use Rattle.maps.proofs.sheet.Alone as Alone
use Rattle.results.specs.FigureSources.{AllOverwritten, SameFigures, NoneWritten, RefusedLeft, LaterFigures, LaterAnswer, LaterRecordFigures, LaterRecordAnswer, LaterMonthFigures, LaterMonthAnswer, HeadAt, FigureAt, PresentAt, AbsentAt, SameHead, PathAndPole, PoleOnly, OnlyRadians, LaterBuffer}
use Rattle.results.proofs.sheet.Ignored as Ignored
use Rattle.results.proofs.sheet.FigurePlaces as FigurePlaces
use Rattle.results.proofs.path.PointRows as PointRows
use Rattle.results.proofs.path.Typed as Typed

pub all_written : AllOverwritten
all_written = Alone.all_written

pub same_figures : SameFigures
same_figures = Alone.same_figures

pub none_written : NoneWritten
none_written = Alone.none_written

pub refused_left : RefusedLeft
refused_left = Alone.refused_left

pub later_figures : LaterFigures
later_figures = Ignored.later_figures

pub later_answer : LaterAnswer
later_answer = Ignored.later_answer

pub later_buffer : LaterBuffer
later_buffer = Ignored.later_buffer

pub later_record_figures : LaterRecordFigures
later_record_figures = Ignored.later_record_figures

pub later_record_answer : LaterRecordAnswer
later_record_answer = Ignored.later_record_answer

pub later_month_figures : LaterMonthFigures
later_month_figures = Ignored.later_month_figures

pub later_month_answer : LaterMonthAnswer
later_month_answer = Ignored.later_month_answer

pub head_at : HeadAt
head_at = FigurePlaces.head_at

pub figure_at : FigureAt
figure_at = FigurePlaces.figure_at

pub present_at : PresentAt
present_at = FigurePlaces.present_at

pub absent_at : AbsentAt
absent_at = FigurePlaces.absent_at

pub same_head : SameHead
same_head = PointRows.same_head

pub path_and_pole : PathAndPole
path_and_pole = Alone.path_and_pole

pub pole_only : PoleOnly
pole_only = PointRows.pole_only

pub only_radians : OnlyRadians
only_radians = Typed.only_radians
