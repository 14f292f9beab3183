-- The 15 fields of a sheet as words, document 01's 14 and request 01's model: month, flag and model
-- are whole numbers, the others the bits of an f32. Assumes nothing.
use Rattle.std.specs.Prelude.{ℕ, ◌*◌, Bool, cond, not, T, List, [], ◌∷◌, ◌==◌, from_bits, nat_lt, to_bits, Float}
use Rattle.std.specs.Float.{binary32}
use Rattle.std.specs.Float.Ieee.{fits}
use Rattle.base.specs.declared.angle.Degrees.{Degrees}
use Rattle.base.specs.Single.{decimal, minus_decimal}
use Rattle.base.specs.Words.{word_at}
use Rattle.maps.specs.declared.inputs.Factors.{Factors}
use Rattle.maps.specs.declared.inputs.Inputs.{Inputs}
use Rattle.maps.specs.declared.inputs.MagneticPole.{MagneticPole}
use Rattle.maps.specs.declared.inputs.Route.{Route}

-- the figures take any word: 0 is the short way; what is neither 0 nor 1 the worksheet refuses
abbrev pub is_long : ℕ → Bool
is_long flag = not (flag == 0)

-- the built-in pole, degrees
unfoldable pub pole_lat : Float
pole_lat = decimal 785 1

unfoldable pub pole_lon : Float
pole_lon = minus_decimal 690 1

-- ---- words read: f k is the field k, counted from 0 in the documents' order

abbrev pub float_from : (ℕ → ℕ) → ℕ → Float
float_from f k = from_bits binary32 (f k)

abbrev pub degrees_from : (ℕ → ℕ) → ℕ → Degrees
degrees_from f k = record { 0 = float_from f k }

unfoldable pub route_from : (ℕ → ℕ) → Route
route_from f =
    record {
      tlat = degrees_from f 3;
      tlong = degrees_from f 4;
      rlat = degrees_from f 5;
      rlong = degrees_from f 6;
      long_path = f 7;
    }

unfoldable pub factors_from : (ℕ → ℕ) → Factors
factors_from f = record { e = float_from f 8; f1 = float_from f 9; f2 = float_from f 10; es = float_from f 11 }

unfoldable pub pole_from : (ℕ → ℕ) → MagneticPole
pole_from f = record { lat = degrees_from f 12; lon = degrees_from f 13 }

unfoldable pub inputs_from : (ℕ → ℕ) → Inputs
inputs_from f =
    record {
      month = f 0;
      ssn = float_from f 1;
      gmt = float_from f 2;
      route = route_from f;
      psc = factors_from f;
      pole = pole_from f;
      model = f 14;
    }

-- '`sheet` keeps its 14 words and two files, with model 0': field k of a sheet's bytes
abbrev pub word_of_sheet : List ℕ → ℕ → ℕ
word_of_sheet s k = cond (nat_lt k 14) (word_at s (4 * k)) 0

-- the 15 words one after the other
unfoldable pub words_to : (ℕ → ℕ) → List ℕ
words_to f =
    f 0 ∷ f 1 ∷ f 2 ∷ f 3 ∷ f 4 ∷ f 5 ∷ f 6 ∷ f 7 ∷ f 8 ∷ f 9 ∷ f 10 ∷ f 11 ∷ f 12 ∷ f 13 ∷ f 14 ∷ []

-- ---- words written

-- the bits of an f32, any NaN as 7fc00000
abbrev pub bits_of : Float → ℕ
bits_of x = to_bits binary32 x

unfoldable pub field_words : Inputs → List ℕ
field_words i =
    i.month
    ∷ bits_of i.ssn
    ∷ bits_of i.gmt
    ∷ bits_of i.route.tlat.0
    ∷ bits_of i.route.tlong.0
    ∷ bits_of i.route.rlat.0
    ∷ bits_of i.route.rlong.0
    ∷ i.route.long_path
    ∷ bits_of i.psc.e
    ∷ bits_of i.psc.f1
    ∷ bits_of i.psc.f2
    ∷ bits_of i.psc.es
    ∷ bits_of i.pole.lat.0
    ∷ bits_of i.pole.lon.0
    ∷ i.model
    ∷ []

-- ---- numbers that an f32 can be

abbrev pub Single : Float → Type 0
Single x = T (fits binary32 x)

pub record Singles (i : Inputs) : Type 0 where
  pub ssn : Single i.ssn
  pub gmt : Single i.gmt
  pub tlat : Single i.route.tlat.0
  pub tlong : Single i.route.tlong.0
  pub rlat : Single i.route.rlat.0
  pub rlong : Single i.route.rlong.0
  pub e : Single i.psc.e
  pub f1 : Single i.psc.f1
  pub f2 : Single i.psc.f2
  pub es : Single i.psc.es
  pub lat : Single i.pole.lat.0
  pub lon : Single i.pole.lon.0
