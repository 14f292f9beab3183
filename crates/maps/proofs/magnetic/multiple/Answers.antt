-- `multiple` is `multiple_of`: one store into each of two arrays.
use Rattle.std.proofs.Common.{refl}
use Rattle.maps.specs.Magnetic.{multiple_of}
use Rattle.maps.proofs.magnetic.multiple.Goals as goal

pub returns : goal.returns
unfolding multiple_of
returns c = refl
