-- Document 01, Known points: 'rows of a table that one theorem covers', (a) to (l). Each row says
-- that two things are the same. Assumes nothing.
use Rattle.std.specs.Prelude.{◌≡◌, List, [], ◌∷◌, Ok}
use Rattle.base.specs.Refusal.{verdict_report}
use Rattle.base.specs.Single.{decimal, minus_decimal}
use Rattle.base.specs.MonthFile.{month_start, month_file_check}
use Rattle.base.specs.Tables.{start_of, xpmap, abmap}
use Rattle.base.specs.Blend.{blend_of, f2_weights, e_weights, height_weights}
use Rattle.maps.specs.declared.ionosphere.clocks.Direction.TheVariants.{ToLocal, ToUniversal}
use Rattle.maps.specs.Clocks.{moved_of}
use Rattle.results.specs.ExhibitedFiles.{cut_file, wrong_file}

infix 20 ◌is◌
pub data KnownRow : Type 1 where
  ◌is◌ : {A : Type 0} → A → A → KnownRow

abbrev pub RowHolds : KnownRow → Type 0
RowHolds (x is y) = x ≡ y

abbrev pub AllHold : List KnownRow → Type 0
AllHold [] = Unit
AllHold (r ∷ rs) = RowHolds r × AllHold rs

abbrev pub known_points : List KnownRow
known_points =
    -- (a) empty month file: 9 at 0
    (verdict_report (month_file_check []) is (9, 0))
    -- (b) 38,551 good bytes: 9 at 38,548
    ∷ (verdict_report (month_file_check cut_file) is (9, 38548))
    -- (c) last marker wrong: 10 at 38,548
    ∷ (verdict_report (month_file_check wrong_file) is (10, 38548))
    -- (d) month 12 starts at 86,944
    ∷ (month_start 12 is 86944)
    -- (e) `xpmap` starts at 28,836
    ∷ (start_of xpmap is 28836)
    -- (f) `abmap` at 25,388
    ∷ (start_of abmap is 25388)
    -- (g) F2 blend of 1 and 2 at 50 is 1.5
    ∷ (blend_of (f2_weights (decimal 50 0)) (decimal 1 0) (decimal 2 0) is decimal 15 1)
    -- (h) E at 80 is 1.5
    ∷ (blend_of (e_weights (decimal 80 0)) (decimal 1 0) (decimal 2 0) is decimal 15 1)
    -- (i) height at 75 is 1.5
    ∷ (blend_of (height_weights (decimal 75 0)) (decimal 1 0) (decimal 2 0) is decimal 15 1)
    -- (j) `cngtim` hour 1, 15 degrees, sign -1: time 0, day -1
    ∷ (moved_of (decimal 1 0) (record { 0 = decimal 15 0 }) ToUniversal
    is Ok (record { time = decimal 0 1; day = minus_decimal 1 0 }))
    -- (k) hour 23, 15, sign 1: 24, day 1
    ∷ (moved_of (decimal 23 0) (record { 0 = decimal 15 0 }) ToLocal
    is Ok (record { time = decimal 24 0; day = decimal 1 0 }))
    -- (l) hour 0.5, -15, sign 1: 23.5, day -1
    ∷ (moved_of (decimal 5 1) (record { 0 = minus_decimal 15 0 }) ToLocal
    is Ok (record { time = decimal 235 1; day = minus_decimal 1 0 }))
    ∷ []
