-- `whole_of` is `whole_of`: to a whole number and back, by what `to_i32` and `from_i32` ensure.
use Rattle.std.proofs.Common.{ap, ◌∙◌}
use lib.Ieee.{binary32, of_int}
use Rattle.maps.specs.Clocks.{whole_of}
use Rattle.maps.proofs.sums.WholeSums.{signed_word}
use Rattle.maps.proofs.ionosphere.clocks.whole_of.Goals as goal

pub returns : goal.returns
unfolding whole_of
returns c = c.from_i32.ensures ∙ ap (of_int binary32) (signed_word c.args.x _ c.to_i32.ensures)
