-- Closed desks, said desk by desk, are those that the laws about lists take. Assumes nothing.
use Rattle.std.proofs.Common.{◌≡◌, sym}
use Rattle.worksheet.specs.declared.desks.Worksheet.{Worksheet}
use Rattle.worksheet.proofs.drafts.Drafts.{at_rest}
use Rattle.results.specs.Insurer.{DesksClosed}

pub at_rest_law : (w : Worksheet) → DesksClosed w → at_rest w ≡ w
at_rest_law w h =
    λ t. record {
      inputs = w.inputs;
      earlier = w.earlier;
      d1 = sym h.d1 t;
      d2 = sym h.d2 t;
      d3 = sym h.d3 t;
      d4 = sym h.d4 t;
    }
