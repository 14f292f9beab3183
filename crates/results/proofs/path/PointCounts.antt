-- How many points a path has: document 01's rule is read off `count_of`, and the long way round is
-- 12,740 km at least, by interval arithmetic from the range of the arc cosine. Assumes nothing.
use Rattle.std.proofs.Common.{◌≡◌, refl, ap, ◌∙◌, Bool, true, false, not, cond, T, T_not, Float}
use lib.Dec.{not_T}
use lib.Ieee.{nan, inf, fin, binary32, round, add, neg, sub, mul, lt, le, is_nan}
use lib.Ieee.Bits.{is_false}
use Rattle.base.specs.declared.angle.Degrees.{Degrees}
use Rattle.maps.specs.declared.inputs.MagneticPole.{MagneticPole}
use Rattle.base.specs.Single.{◌⊖◌, ◌⊗◌, decimal}
use Rattle.base.specs.Double.{fraction}
use Rattle.base.specs.Constants.{PI2, RZ}
use Rattle.base.proofs.verdicts.Picks.{cond_false}
use Rattle.base.proofs.order.Order.{Between, trans_le}
use Rattle.base.proofs.order.Intervals.{exactly, sub_in, mul_in}
use Rattle.maps.specs.Geometry.{acos_clamped, other_way, at_least_minimum, gcd_of, circle_of, count_of, path_of}
pub use Rattle.results.specs.AsInTheRust.{CountRule, one, three, five}
use Rattle.results.proofs.path.SignRules.{acos_clamped_in, acos_clamped_nan}

-- ---- document 01, Figures: '`gcd_km` <= 2000.01 (as f32) gives one point, <= 4000 three, else
-- five'
pub count_rule : (km : Float) → CountRule km (count_of km)
unfolding count_of
count_rule km = go (le km (decimal 200001 2)) (le km (decimal 40000 1)) refl refl
  where
    go : (a b : Bool) → le km (decimal 200001 2) ≡ a → le km (decimal 40000 1) ≡ b → CountRule km (cond a 1 (cond b 3 5))
    go true b p q = one p
    go false true p q = three p q
    go false false p q = five p q

pub count_nan : count_of nan ≡ 5
unfolding count_of le lt
count_nan = refl

pub path_count : (tlat tlong rlat rlong : Degrees) (long : Bool) (pole : MagneticPole) → CountRule (path_of tlat tlong rlat rlong long pole).gcd_km (path_of tlat tlong rlat rlong long pole).count
unfolding path_of
path_count tlat tlong rlat rlong long pole = count_rule _

-- ---- the long way round
minimum_in : Between (fraction 0 1) (fraction 4 1) (decimal 1 6)
unfolding decimal fraction round le
minimum_in = record { low = tt; high = tt }

least_in : (a : Float) → Between (fraction 0 1) (fraction 4 1) a → Between (fraction 0 1) (fraction 4 1) (at_least_minimum a)
unfolding at_least_minimum
least_in a b = go (lt a (decimal 1 6))
  where
    go : (c : Bool) → Between (fraction 0 1) (fraction 4 1) (cond c (decimal 1 6) a)
    go true = minimum_in
    go false = b

far : (a : Float) → Between (fraction 0 1) (fraction 4 1) a → Between (decimal 2 0) (decimal 7 0) (PI2 ⊖ a)
unfolding PI2 decimal fraction round sub add neg le
far a b = sub_in binary32 (decimal 2 0) (decimal 7 0) tt (exactly PI2 tt) b

long_km : (a : Float) → Between (fraction 0 1) (fraction 4 1) a → Between (decimal 12740 0) (decimal 44590 0) ((PI2 ⊖ a) ⊗ RZ)
unfolding RZ decimal round mul le
long_km a b = mul_in binary32 (decimal 12740 0) (decimal 44590 0) tt (far a b) (exactly RZ tt)

-- what is 12,740 at least is above a limit that is not
above : (km limit : Float) → T (not (le (decimal 12740 0) limit)) → T (le (decimal 12740 0) km) → le km limit ≡ false
above km limit n h = is_false (le km limit) (not_T (le km limit) (λ t. T_not (le (decimal 12740 0) limit) n (trans_le (decimal 12740 0) km limit h t)))

limit_one : T (not (le (decimal 12740 0) (decimal 200001 2)))
unfolding decimal round le
limit_one = tt

limit_three : T (not (le (decimal 12740 0) (decimal 40000 1)))
unfolding decimal round le
limit_three = tt

far_five : (km : Float) → T (le (decimal 12740 0) km) → count_of km ≡ 5
unfolding count_of
far_five km h = cond_false _ _ (above km (decimal 200001 2) limit_one h) ∙ cond_false _ _ (above km (decimal 40000 1) limit_three h)

nan_km : (PI2 ⊖ at_least_minimum nan) ⊗ RZ ≡ nan
unfolding at_least_minimum lt PI2 RZ decimal round sub add neg mul
nan_km = refl

long_count : (q : Float) → count_of ((PI2 ⊖ at_least_minimum (acos_clamped q)) ⊗ RZ) ≡ 5
unfolding is_nan
long_count nan = ap (λ (a : Float). count_of ((PI2 ⊖ at_least_minimum a) ⊗ RZ)) acos_clamped_nan ∙ (ap count_of nan_km ∙ count_nan)
long_count (inf s) = far_five _ (long_km _ (least_in _ (acos_clamped_in (inf s) tt))).low
long_count (fin s m e) = far_five _ (long_km _ (least_in _ (acos_clamped_in (fin s m e) tt))).low

-- document 01, Figures: 'A long path always gives five', NaN and infinite ends included
pub long_five : (tlat tlong rlat rlong : Degrees) (pole : MagneticPole) → (path_of tlat tlong rlat rlong true pole).count ≡ 5
unfolding path_of circle_of gcd_of other_way
long_five tlat tlong rlat rlong pole = long_count _
