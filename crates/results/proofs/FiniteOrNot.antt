-- Can a figure be NaN? Each statement of specs/FiniteOrNot.antt, from where it is proved. Assumes
-- nothing.
use Rattle.results.proofs.numbers.Sizes.{range_between}
use Rattle.results.proofs.finite.AcceptedFields.{accepted_in_range as accepted-in-range-proved}
use Rattle.results.proofs.finite.SoundFiles.{sound_sheets as sound-sheets-proved}
use Rattle.results.proofs.finite.FiniteSheets.{
  point_numbers_law as point-numbers-proved,
  sheet_path_finite as sheet-path-finite-proved,
  sheet_point_finite as sheet-point-finite-proved,
  sheet_ground_finite as sheet-ground-finite-proved,
  point_mapped as point-mapped-proved,
  sheet_es_finite as sheet-es-finite-proved,
  sheet_layers_law as sheet-layers-proved,
  sheet_finite as sheet-finite-proved,
  zenang_range as zenang-range-proved,
  beyond_none as beyond-none-proved,
  none_beyond as none-beyond-proved,
}
use Rattle.results.proofs.finite.FiniteLayers.{
  ground_pair as ground-pair-proved,
  e_height as e-height-proved,
  es_height as es-height-proved,
  zenang_example as zenang-example-proved,
  rat_nan as rat-nan-proved,
  yi2_nan as yi2-nan-proved,
  hpf2_finite as hpf2-finite-proved,
  hpf2_at_zero as hpf2-at-zero-proved,
}
use Rattle.results.proofs.finite.NoSun.{no_sun_layers as no-sun-layers-proved, no_sun_row as no-sun-row-proved}
use Rattle.results.proofs.finite.FileWords.{
  shown_finite as shown-finite-proved,
  month_numbers,
  blend_overflows as blend-overflows-proved,
}
use Rattle.results.proofs.finite.MagneticFinite.{nowhere_zero}
use Rattle.results.proofs.field.FieldNotZero.{field_not_zero as field-not-zero-proved}
use Rattle.results.specs.FiniteOrNot.{
  PointNumbers,
  AcceptedInRange,
  SheetPathFinite,
  SheetPointFinite,
  FieldNotZero,
  UneNotZero,
  GroundPair,
  SheetGroundFinite,
  EHeight,
  EsHeight,
  SoundSheets,
  PointMapped,
  SheetEsFinite,
  SheetLayers,
  SheetFinite,
  ZenangRange,
  BeyondNone,
  NoneBeyond,
  ZenangExample,
  RatNan,
  Yi2Nan,
  Hpf2Finite,
  Hpf2AtZero,
  NoSunLayers,
  NoSunRow,
  ShownFinite,
  MonthNumbersSound,
  BlendOverflows,
}

pub point_numbers_law : PointNumbers
point_numbers_law f2 file i p k = point-numbers-proved f2 file i p k

pub accepted_in_range : AcceptedInRange
accepted_in_range = accepted-in-range-proved

pub sheet_path_finite : SheetPathFinite
sheet_path_finite f2 file i r = sheet-path-finite-proved i r f2 file

pub sheet_point_finite : SheetPointFinite
sheet_point_finite f2 file i p r t = sheet-point-finite-proved f2 file i p t r

pub field_not_zero : FieldNotZero
field_not_zero c phi b h = field-not-zero-proved c phi (range_between _ _ _ b) (range_between _ _ _ h)

pub une_not_zero : UneNotZero
une_not_zero lat east_lon n h = nowhere_zero lat east_lon n (range_between _ _ _ h)

pub ground_pair : GroundPair
ground_pair = ground-pair-proved

pub sheet_ground_finite : SheetGroundFinite
sheet_ground_finite = sheet-ground-finite-proved

pub e_height : EHeight
e_height = e-height-proved

pub es_height : EsHeight
es_height = es-height-proved

pub sound_sheets : SoundSheets
sound_sheets = sound-sheets-proved

pub point_mapped : PointMapped
point_mapped f2 file i p s t = point-mapped-proved f2 file i p t s

pub sheet_es_finite : SheetEsFinite
sheet_es_finite f2 file i p s t = sheet-es-finite-proved f2 file i p t s

pub sheet_layers_law : SheetLayers
sheet_layers_law f2 file i p s t = sheet-layers-proved f2 file i p t s

pub sheet_finite : SheetFinite
sheet_finite f2 file i p s t = sheet-finite-proved f2 file i p t s

pub zenang_range : ZenangRange
zenang_range = zenang-range-proved

pub beyond_none : BeyondNone
beyond_none f2 file i p r f month t = beyond-none-proved f2 file i p t r f month

pub none_beyond : NoneBeyond
none_beyond f2 file i p r f month t = none-beyond-proved f2 file i p t r f month

pub zenang_example : ZenangExample
zenang_example = zenang-example-proved

pub rat_nan : RatNan
rat_nan = rat-nan-proved

pub yi2_nan : Yi2Nan
yi2_nan = yi2-nan-proved

pub hpf2_finite : Hpf2Finite
hpf2_finite m ssn gmt psc hmym pt mag g t = (hpf2-finite-proved m ssn gmt psc hmym pt mag g t).size

pub hpf2_at_zero : Hpf2AtZero
hpf2_at_zero = hpf2-at-zero-proved

pub no_sun_layers : NoSunLayers
no_sun_layers = no-sun-layers-proved

pub no_sun_row : NoSunRow
no_sun_row = no-sun-row-proved

pub shown_finite : ShownFinite
shown_finite = shown-finite-proved

pub month_numbers_sound : MonthNumbersSound
month_numbers_sound = month_numbers

pub blend_overflows : BlendOverflows
blend_overflows = blend-overflows-proved
