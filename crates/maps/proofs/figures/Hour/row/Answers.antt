-- `row` is `figure_row`, by whether the point is there: its numbers, as the calls ensure, or zeros.
use Rattle.std.proofs.Common.{sym, le-ltb, lt-ltb}
use lib.Ieee.{round, of_bits}
use Rattle.base.specs.Single.{decimal}
use Rattle.base.proofs.verdicts.Picks.{cond_true, cond_false}
use Rattle.maps.specs.Figures.{point_row, figure_row}
use Rattle.maps.proofs.figures.Hour.row.Goals as goal

pub returns-then-g-p : goal.returns-then-g-p
unfolding figure_row decimal round of_bits
returns-then-g-p c = sym (cond_false _ _ (le-ltb _ _ c.if-g-p.true))

pub returns : goal.returns
unfolding figure_row point_row
returns c =
    let b1 = c in
    let b2 = b1 in
    let b3 = b2 in
    let b4 = b3 in
    let there = b4.if-g-p.false in
    rw (c.numbers.ensures, b1.ground_constants-ground.ensures, b2.esind-es.ensures, b3.layer_parameters-l.ensures, b4.gammas_at-gammas.ensures, b4.magvar-mag.ensures) (sym (cond_true _ _ (lt-ltb _ _ there)))
