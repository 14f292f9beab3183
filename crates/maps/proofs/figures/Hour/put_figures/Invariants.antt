-- `put_figures` writes `figures_to`, by the loop's invariant that the buffer starts with the path's
-- figures and p rows.
use Rattle.std.proofs.Common.{◌≡◌, ◌+◌, ◌*◌, length, take}
use Rattle.maps.specs.Figures.{shared, figures_to}
use Rattle.maps.proofs.figures.Hour.put_figures.Given as goal

abbrev pub invariant-loop-p : goal.invariant-loop-p
invariant-loop-p l =
    record {
      long : length l.out ≡ 151;
      starts : take (6 + 29 * l.p) l.out ≡ figures_to (shared l.self) l.i l.g l.p;
    }
