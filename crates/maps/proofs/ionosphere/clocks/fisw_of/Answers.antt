-- `fisw_of` is `fisw_of`, by the direction's two cases.
use Rattle.std.proofs.Common.{sym, ap}
use lib.Ieee.{of_bits, round, neg}
use Rattle.base.specs.Single.{decimal, minus_decimal}
use Rattle.maps.specs.Clocks.{fisw_of}
use Rattle.maps.proofs.ionosphere.clocks.fisw_of.Goals as goal

pub returns-in-ToLocal : goal.returns-in-ToLocal
unfolding fisw_of decimal minus_decimal round of_bits neg
returns-in-ToLocal c = sym (ap fisw_of c.in-ToLocal.is)

pub returns-in-ToUniversal : goal.returns-in-ToUniversal
unfolding fisw_of decimal minus_decimal round of_bits neg
returns-in-ToUniversal c = sym (ap fisw_of c.in-ToUniversal.is)
