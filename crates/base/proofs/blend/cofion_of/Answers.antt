-- `cofion_of` fills the array with `cofion_of`: six calls blend a map each, from where the one
-- before ended.
use Rattle.std.proofs.Common.{arith, lit≤, rules}
use Rattle.base.specs.Tables.{xfm3cf, xesmcf, xeslcf, xesucf, xercof}
use Rattle.base.proofs.lists.Maps.{six_maps}
use Rattle.base.proofs.blend.cofion_of.Goals as goal

pub blend-requires : goal.blend-requires
blend-requires c =
    let p = c.requires in
    let l = c.blend-arg-1.given in
    (omega arith, omega arith, omega (arith, p.1), omega (arith, l), p.3.words xeslcf (lit≤ tt) (lit≤ tt))

pub blend-requires-2 : goal.blend-requires-2
blend-requires-2 c =
    let p = c.requires in
    let l = c.blend-arg-2-1.given in
    (omega arith, omega arith, omega (arith, p.1), omega (arith, l), p.3.words xesmcf (lit≤ tt) (lit≤ tt))

pub blend-requires-3 : goal.blend-requires-3
blend-requires-3 c =
    let p = c.requires in
    let l = c.blend-arg-3-1.given in
    (omega arith, omega arith, omega (arith, p.1), omega (arith, l), p.3.words xesucf (lit≤ tt) (lit≤ tt))

pub blend-requires-5 : goal.blend-requires-5
blend-requires-5 c =
    let p = c.requires in
    let l = c.blend-arg-5-1.given in
    (omega arith, omega arith, omega (arith, p.1), omega (arith, l), p.3.words xfm3cf (lit≤ tt) (lit≤ tt))

pub blend-requires-6 : goal.blend-requires-6
blend-requires-6 c =
    let p = c.requires in
    let l = c.blend-arg-6-1.given in
    (omega arith, omega arith, omega (arith, p.1), omega (arith, l), p.3.words xercof (lit≤ tt) (lit≤ tt))

pub returns : goal.returns
returns c =
    let b6 = c in
    let b5 = b6 in
    let b4 = b5 in
    let b3 = b4 in
    let b2 = b3 in
    let b1 = b2 in
    let we = b1 in
    six_maps _ _ _ we.f2_weights-wf.ensures we.e_weights-we.ensures _ _ _ _ _ _ (search rules)
    b1.blend.ensures
    b2.blend-2.ensures
    b3.blend-3.ensures
    b4.blend-4.ensures
    b5.blend-5.ensures
    b6.blend-6.ensures
