-- What crosses to bytes and words: each statement of specs/Crossing.antt, from where the work is
-- done. Assumes nothing.
use Rattle.std.proofs.Common.{arith, lit<}
use Rattle.maps.proofs.sheet.Codec as Codec
use Rattle.jutetrowel.proofs.crossing.Returned as Returned
use Rattle.jutetrowel.proofs.lists.Carried as Carried
use Rattle.results.specs.Crossing.{FieldsBack, FromSingle, WordsBack, AcceptedNumber, ShownNumber, ReadBack, AllCalls}
use Rattle.results.proofs.sheet.HandedBack as HandedBack

pub fields_back : FieldsBack
fields_back = Codec.fields_back

pub from_single : FromSingle
from_single = Codec.from_single

pub words_back : WordsBack
words_back f h =
    Codec.words_back f
    (record {
      ssn = h 1 (lit< tt) (λ e. omega arith) (λ e. omega arith);
      gmt = h 2 (lit< tt) (λ e. omega arith) (λ e. omega arith);
      tlat = h 3 (lit< tt) (λ e. omega arith) (λ e. omega arith);
      tlong = h 4 (lit< tt) (λ e. omega arith) (λ e. omega arith);
      rlat = h 5 (lit< tt) (λ e. omega arith) (λ e. omega arith);
      rlong = h 6 (lit< tt) (λ e. omega arith) (λ e. omega arith);
      e = h 8 (lit< tt) (λ e. omega arith) (λ e. omega arith);
      f1 = h 9 (lit< tt) (λ e. omega arith) (λ e. omega arith);
      f2 = h 10 (lit< tt) (λ e. omega arith) (λ e. omega arith);
      es = h 11 (lit< tt) (λ e. omega arith) (λ e. omega arith);
      lat = h 12 (lit< tt) (λ e. omega arith) (λ e. omega arith);
      lon = h 13 (lit< tt) (λ e. omega arith) (λ e. omega arith);
    })

pub accepted_number : AcceptedNumber
accepted_number = HandedBack.accepted_number

pub shown_number : ShownNumber
shown_number = HandedBack.shown_number

pub read_back : ReadBack
read_back = Returned.read_back

pub all_calls : AllCalls
all_calls = Carried.all_calls
