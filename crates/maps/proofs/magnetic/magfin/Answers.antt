-- `magfin` is `magfin_of`: its calls are rewritten by what they ensure, and the arrays have the sums
-- of the closed form (`FieldSums`).
use Rattle.std.proofs.Common.{sym}
use Rattle.maps.proofs.field.FieldSums.{magfin_arrays}
use Rattle.maps.proofs.magnetic.magfin.Goals as goal

pub returns : goal.returns
returns c =
    let k = c in
    rw (k.expansion-b.ensures, k.placed-x.ensures) (sym (magfin_arrays _ _ _))
