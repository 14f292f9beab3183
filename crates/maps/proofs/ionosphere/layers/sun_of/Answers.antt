-- `sun_of` is `sun_of`, by whether there is such a month: the source's table is the digits of
-- specs/Layers.antt, by computation over the whole table.
use Rattle.std.proofs.Common.{◌≡◌, ◌-◌, List, [], ◌∷◌, map, get_or, sym, ◌∙◌, arith, eq-eqb, ne_eqb, Float}
use lib.ListN.{get_or-map, get_or-eq_default}
use lib.Ieee.{nan, round, of_bits, div}
use Rattle.base.specs.Single.{decimal, minus_decimal}
use Rattle.base.proofs.verdicts.Picks.{cond_true, cond_false}
use Rattle.maps.specs.declared.ionosphere.layers.Sun.{Sun}
use Rattle.maps.specs.Layers.{sun, SUN, sun_of}
use Rattle.maps.proofs.ionosphere.layers.sun_of.Goals.{then-month-lt1-via-then-month-lt1, then-month-lt1-via-else-month-lt1+then-month-gt12}
use Rattle.maps.proofs.ionosphere.layers.sun_of.Goals as goal

-- to a row of the source's table and back
abbrev row : Sun → List Float
row s = s.0.0 ∷ s.1.0 ∷ []

abbrev of_row : List Float → Sun
of_row l = sun (get_or l 0 nan) (get_or l 1 nan)

pub returns-then-month-lt1 : goal.returns-then-month-lt1
unfolding sun_of SUN round of_bits div
returns-then-month-lt1 c =
    elim c.then-month-lt1.branch [
      | then-month-lt1-via-then-month-lt1 w ↦
          let z : c.args.month ≡ 0 = omega (arith, w.if-month-lt1.true) in
          sym (cond_true _ _ (eq-eqb _ _ z))
      | then-month-lt1-via-else-month-lt1+then-month-gt12 w ↦
          let h = w.if-month-gt12.true in
          sym (cond_false _ _ (ne_eqb c.args.month 0 (λ z. omega arith)) ∙ get_or-eq_default SUN _ {n = c.args.month - 1} (omega arith))
    ]

pub returns : goal.returns
unfolding sun_of SUN decimal minus_decimal round of_bits
returns c = sym (cond_false _ _ (ne_eqb c.args.month 0 (λ z. omega arith)) ∙ get_or-map of_row (map row SUN) (c.args.month - 1) [])
