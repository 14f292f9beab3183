-- `magvar` is `magvar_of`: its calls are rewritten by what they ensure, the last call first.
use lib.Ieee.{round, of_bits}
use Rattle.base.specs.Single.{decimal}
use Rattle.maps.specs.Magnetic.{magvar_of}
use Rattle.maps.proofs.magnetic.magvar.Goals as goal

pub returns : goal.returns
unfolding magvar_of decimal round of_bits
returns c =
    let k = c in
    let q = k in
    let r = q in
    rw (c.atan32-gmdip.ensures, c.sqrt32-2.ensures, c.gob.ensures, k.atan32-dip.ensures, k.sqrt32.ensures, q.sqrt32-hhm.ensures, r.magfin-une.ensures, r.east-east_lon.ensures)
