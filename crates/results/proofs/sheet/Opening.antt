-- Words that open: 14 of them, written out byte by byte. By computation. Assumes nothing.
use Rattle.std.proofs.Common.{Ok, List, [], ◌∷◌, ◌≡◌, refl, ℕ}
use lib.Ieee.{round, le, of_bits}
use Rattle.base.specs.Single.{decimal, minus_decimal}
use Rattle.base.specs.Words.{word_at}
use Rattle.base.specs.Ranges.{month_check, hour_check, latitude_check, longitude_check, model_check}
use Rattle.maps.specs.Inputs.{route_from, factors_from, pole_from, inputs_from}
use Rattle.worksheet.specs.Inputs.{sunspot_check, factor_check, flag_check, route_check, factors_check, pole_check, inputs_check}
use Rattle.worksheet.specs.Desks.{open_of, opened_of}
use Rattle.results.specs.ExhibitedFiles.{Below}
use Rattle.results.proofs.files.GoodFiles.{all_below, below_all}

-- January, 100 sunspots, 12 hours GMT, from 0, 0 to 90, 0 the short way, factors of 1, and a pole
-- at 78.5, 0
abbrev pub opening_bytes : List ℕ
opening_bytes =
    1 ∷ 0 ∷ 0 ∷ 0
    ∷ 0 ∷ 0 ∷ 0xc8 ∷ 0x42
    ∷ 0 ∷ 0 ∷ 0x40 ∷ 0x41
    ∷ 0 ∷ 0 ∷ 0 ∷ 0
    ∷ 0 ∷ 0 ∷ 0 ∷ 0
    ∷ 0 ∷ 0 ∷ 0xb4 ∷ 0x42
    ∷ 0 ∷ 0 ∷ 0 ∷ 0
    ∷ 0 ∷ 0 ∷ 0 ∷ 0
    ∷ 0 ∷ 0 ∷ 0x80 ∷ 0x3f
    ∷ 0 ∷ 0 ∷ 0x80 ∷ 0x3f
    ∷ 0 ∷ 0 ∷ 0x80 ∷ 0x3f
    ∷ 0 ∷ 0 ∷ 0x80 ∷ 0x3f
    ∷ 0 ∷ 0 ∷ 0x9d ∷ 0x42
    ∷ 0 ∷ 0 ∷ 0 ∷ 0
    ∷ []

pub of_bytes : Below 256 opening_bytes
unfolding all_below
of_bytes = below_all 256 opening_bytes tt

pub opens : (opened_of opening_bytes).answer ≡ Ok tt
unfolding opened_of open_of inputs_from route_from factors_from pole_from word_at of_bits inputs_check month_check sunspot_check hour_check route_check latitude_check longitude_check flag_check factors_check factor_check pole_check model_check decimal minus_decimal round le
opens = refl
