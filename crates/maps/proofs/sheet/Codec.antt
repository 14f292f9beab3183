-- Fields written as words and read again are the same fields, if their numbers are values of an
-- f32, as those read off words are; and words read and written again are the same words, if no NaN
-- is there but the one that is written. Field by field. Assumes nothing.
use Rattle.std.proofs.Common.{◌≡◌, ℕ, ◌^◌, ◌<◌, not, T, ◌⊎◌, [], ◌∷◌, get_or, sym, ap, ◌∙◌, inl, inr, Float}
use lib.Ieee.{binary32, is_nan, of_bits, to_bits}
use lib.Ieee.Bits.{of_bits-to_bits, of_bits-fits, to_bits-of_bits}
use Rattle.maps.specs.declared.inputs.Inputs.{Inputs}
use Rattle.maps.specs.Inputs.{route_from, factors_from, pole_from, inputs_from, words_to, field_words, Single, Singles}

-- ---- fields, words, fields

back : (x : Float) → Single x → of_bits binary32 (to_bits binary32 x) ≡ x
back x h = of_bits-to_bits binary32 x h

pub fields_back : (i : Inputs) → Singles i → inputs_from (λ (k : ℕ). get_or (field_words i) k 0) ≡ i
unfolding inputs_from route_from factors_from pole_from field_words
fields_back i h =
    let ssn = back i.ssn h.ssn in
    let gmt = back i.gmt h.gmt in
    let tlat = back i.route.tlat.0 h.tlat in
    let tlong = back i.route.tlong.0 h.tlong in
    let rlat = back i.route.rlat.0 h.rlat in
    let rlong = back i.route.rlong.0 h.rlong in
    let e = back i.psc.e h.e in
    let f1 = back i.psc.f1 h.f1 in
    let f2 = back i.psc.f2 h.f2 in
    let es = back i.psc.es h.es in
    let lat = back i.pole.lat.0 h.lat in
    let lon = back i.pole.lon.0 h.lon in
    λ t. record {
      month = i.month;
      ssn = ssn t;
      gmt = gmt t;
      route =
          record {
            tlat = record { 0 = tlat t };
            tlong = record { 0 = tlong t };
            rlat = record { 0 = rlat t };
            rlong = record { 0 = rlong t };
            long_path = i.route.long_path;
          };
      psc = record { e = e t; f1 = f1 t; f2 = f2 t; es = es t };
      pole = record { lat = record { 0 = lat t }; lon = record { 0 = lon t } };
      model = i.model;
    }

module _ (f : ℕ → ℕ) where
  pub from_single : Singles (inputs_from f)
  unfolding inputs_from route_from factors_from pole_from
  from_single =
      record {
        ssn = of_bits-fits binary32 _;
        gmt = of_bits-fits binary32 _;
        tlat = of_bits-fits binary32 _;
        tlong = of_bits-fits binary32 _;
        rlat = of_bits-fits binary32 _;
        rlong = of_bits-fits binary32 _;
        e = of_bits-fits binary32 _;
        f1 = of_bits-fits binary32 _;
        f2 = of_bits-fits binary32 _;
        es = of_bits-fits binary32 _;
        lat = of_bits-fits binary32 _;
        lon = of_bits-fits binary32 _;
      }

  -- ---- words, fields, words

  -- a word that is the bits of a number, or of the NaN that is written
  abbrev pub Written : ℕ → Type 0
  Written k = (f k < 2 ^ 32) × (T (not (is_nan (of_bits binary32 (f k)))) ⊎ (f k ≡ 2143289344))

  again : (k : ℕ) → Written k → to_bits binary32 (of_bits binary32 (f k)) ≡ f k
  unfolding of_bits to_bits
  again k (l, inl number) = to_bits-of_bits binary32 (f k) l number
  again k (l, inr e) = ap (λ (n : ℕ). to_bits binary32 (of_bits binary32 n)) e ∙ sym e

  -- the words of the twelve numbers
  pub record AllWritten : Type 0 where
    pub ssn : Written 1
    pub gmt : Written 2
    pub tlat : Written 3
    pub tlong : Written 4
    pub rlat : Written 5
    pub rlong : Written 6
    pub e : Written 8
    pub f1 : Written 9
    pub f2 : Written 10
    pub es : Written 11
    pub lat : Written 12
    pub lon : Written 13

  pub words_back : AllWritten → field_words (inputs_from f) ≡ words_to f
  unfolding inputs_from route_from factors_from pole_from field_words words_to
  words_back h =
      let ssn = again 1 h.ssn in
      let gmt = again 2 h.gmt in
      let tlat = again 3 h.tlat in
      let tlong = again 4 h.tlong in
      let rlat = again 5 h.rlat in
      let rlong = again 6 h.rlong in
      let e = again 8 h.e in
      let f1 = again 9 h.f1 in
      let f2 = again 10 h.f2 in
      let es = again 11 h.es in
      let lat = again 12 h.lat in
      let lon = again 13 h.lon in
      λ t. f 0 ∷ ssn t ∷ gmt t ∷ tlat t ∷ tlong t ∷ rlat t ∷ rlong t ∷ f 7 ∷ e t ∷ f1 t ∷ f2 t ∷ es t ∷ lat t ∷ lon t ∷ f 14 ∷ []
