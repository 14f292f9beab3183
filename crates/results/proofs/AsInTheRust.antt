-- The statements of specs/AsInTheRust.antt, each from where the work is done. Assumes nothing.
use Rattle.std.proofs.Common.{refl, T, Float}
use lib.Ieee.{le}
use lib.Ieee.Fits.{and_l, and_r}
use Rattle.base.specs.Ranges.{is_to}
use Rattle.base.proofs.order.Order.{Between}
use Rattle.maps.proofs.sums.GeographicFunctions
use Rattle.maps.proofs.field.FieldSums as Sums
use Rattle.maps.proofs.field.Legendre
use Rattle.results.specs.AsInTheRust.{Report340, SixSeries, PointSeries, FigureSeries, MapSeries, FilledClosed, FilledAt, PastEnd, InHarmonic, HourAt, HourElsewhere, OneTable, HourFrom, EveryWord, EntryInside, EntriesApart, TableEntry, CofionEntry, HmymEntry, FakmapEntry, MapsShaped, PFilled, DpFilled, FieldSums, MagfinArrays, CtGauss, PathCount, LongFive, RowsPast, ClockRange, PointClock, ShownClock, Clock24Stays, Clock0Becomes24, ClockMinus0Becomes24, CngtimSettled, ZeroLeaves, ExactZero, EveryMoved, EveryTimes, EveryLocal, Known, CutShort, LastWrong, PartsMeet, PartsEnd, LineEntry, AbmapEntry, RowGmlat, SignMinusZero, SignNan, RunsMeet, RunsEnd}
use Rattle.results.proofs.series.Report340 as Series
use Rattle.results.proofs.series.FigureSeries as Figured
use Rattle.results.proofs.series.DailySeries
use Rattle.results.proofs.series.StartsTable
use Rattle.results.proofs.files.TableEntries
use Rattle.results.proofs.files.Marks
use Rattle.results.proofs.files.FilePoints
use Rattle.results.proofs.path.SignRules
use Rattle.results.proofs.path.PointCounts
use Rattle.results.proofs.path.PointRows
use Rattle.results.proofs.path.Longitudes
use Rattle.results.proofs.clock.Clock
use Rattle.results.proofs.clock.Midnight
use Rattle.results.proofs.clock.Wraps
use Rattle.results.proofs.clock.ClockPoints
use Rattle.results.proofs.sheet.ShownClocks

-- ---- the series of CCIR Report 340

pub report_340 : Report340
report_340 = Series.report_340

pub six_series : SixSeries
six_series = Series.six_series

pub point_series : PointSeries
point_series = Figured.point_series

pub figure_series : FigureSeries
figure_series = Figured.figure_series

pub map_series : MapSeries
map_series = Series.map_series

-- ---- the geographic functions and the hour's 318 numbers

pub filled_closed : FilledClosed
filled_closed = GeographicFunctions.filled_closed

pub filled_at : FilledAt
filled_at = GeographicFunctions.filled_at

pub past_end : PastEnd
past_end = GeographicFunctions.past_end

pub in_harmonic : InHarmonic
in_harmonic = GeographicFunctions.in_harmonic

pub runs_meet : RunsMeet
runs_meet = DailySeries.runs_meet

pub runs_end : RunsEnd
runs_end = DailySeries.runs_end

pub parts_meet : PartsMeet
parts_meet = DailySeries.parts_meet

pub parts_end : PartsEnd
parts_end = DailySeries.parts_end

pub ab_at : HourAt
ab_at = DailySeries.ab_at

pub ab_other : HourElsewhere
ab_other = DailySeries.ab_other

pub one_table : OneTable
one_table = StartsTable.one_table

pub hour_from_law : HourFrom
hour_from_law = StartsTable.hour_from_law

-- ---- the words of the tables

pub every_word : EveryWord
every_word = TableEntries.every_word

pub entry_inside : EntryInside
entry_inside = TableEntries.entry_inside

pub entries_apart : EntriesApart
entries_apart = TableEntries.entries_apart

pub table_entry : TableEntry
table_entry = TableEntries.table_entry

pub cofion_entry : CofionEntry
cofion_entry = TableEntries.cofion_entry

pub hmym_entry : HmymEntry
hmym_entry = TableEntries.hmym_entry

pub fakmap_entry : FakmapEntry
fakmap_entry = TableEntries.fakmap_entry

pub line_entry : LineEntry
line_entry = TableEntries.line_entry

pub abmap_entry : AbmapEntry
abmap_entry = TableEntries.abmap_entry

pub maps_shaped : MapsShaped
maps_shaped = TableEntries.maps_shaped

-- ---- the field

pub p_filled : PFilled
p_filled x n h = let q = Sums.p_filled x n h in record { size = q.size; written = q.written; never = q.never }

pub dp_filled : DpFilled
dp_filled x n h = let q = Sums.dp_filled x n h in record { size = q.size; written = q.written; never = q.never }

pub field_sums : FieldSums
field_sums = Sums.field_sums

pub magfin_arrays : MagfinArrays
magfin_arrays = Sums.magfin_arrays

pub ct_gauss : CtGauss
ct_gauss n m a b h =
    let g = Legendre.ct_gauss n m a b h in record { digits = g.digits; value = g.value; low = g.low; high = g.high }

-- ---- the path

pub path_count : PathCount
path_count = PointCounts.path_count

pub long_five : LongFive
long_five = PointCounts.long_five

pub rows_past : RowsPast
rows_past = PointRows.rows_past

pub row_gmlat : RowGmlat
row_gmlat = PointRows.row_gmlat

pub sign_minus_zero : SignMinusZero
sign_minus_zero = SignRules.sign_minus_zero

pub sign_nan : SignNan
sign_nan = SignRules.sign_nan

-- ---- the clocks

-- `is_to` is the interval
between : (low high x : Float) → T (is_to low high x) → Between low high x
between low high x h = record { low = and_l (le low x) (le x high) h; high = and_r (le low x) (le x high) h }

pub clock_range : ClockRange
unfolding Clock.farthest
clock_range gmt lon h b = Clock.clock_range gmt lon (between _ _ gmt h) (between _ _ lon.0 b)

pub point_clock : PointClock
point_clock tlat tlong rlat rlong a b c d long pole gmt h =
    Longitudes.point_clock tlat tlong rlat rlong
    (record { latitude = between _ _ tlat.0 a; longitude = between _ _ tlong.0 b })
    (record { latitude = between _ _ rlat.0 c; longitude = between _ _ rlong.0 d })
    long pole gmt (between _ _ gmt h)

pub shown_clock : ShownClock
shown_clock = ShownClocks.shown_clock

pub clock_24_stays : Clock24Stays
clock_24_stays = Midnight.clock_24_stays

pub clock_0_becomes_24 : Clock0Becomes24
clock_0_becomes_24 = Midnight.clock_0_becomes_24

pub clock_minus_0_becomes_24 : ClockMinus0Becomes24
clock_minus_0_becomes_24 = Midnight.clock_minus_0_becomes_24

pub cngtim_settled : CngtimSettled
cngtim_settled time x isw h b = Wraps.cngtim_settled time x isw (between _ _ time h) (between _ _ x.0 b)

pub zero_leaves : ZeroLeaves
zero_leaves = Wraps.zero_leaves

pub exact_zero : ExactZero
exact_zero = Wraps.exact_zero

pub moved_in_day : EveryMoved
moved_in_day = Wraps.moved_in_day

pub times_in_day : EveryTimes
times_in_day = Wraps.times_in_day

pub local_in_day : EveryLocal
local_in_day = Wraps.local_in_day

-- ---- document 01's known points

pub known : Known
known = (
  FilePoints.empty_file,
  (
    FilePoints.cut_file_law,
    (
      FilePoints.wrong_file_law,
      (
        refl,
        (
          refl,
          (
            refl,
            (
              FilePoints.f2_blend,
              (
                FilePoints.e_blend,
                (
                  FilePoints.height_blend,
                  (
                    ClockPoints.exact_midnight,
                    (
                      ClockPoints.next_day,
                      (ClockPoints.day_before, tt),
                    ),
                  ),
                ),
              ),
            ),
          ),
        ),
      ),
    ),
  ),
)

pub cut_short : CutShort
cut_short = Marks.cut_short

pub last_wrong : LastWrong
last_wrong = Marks.last_wrong
