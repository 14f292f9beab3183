-- The statements of specs/ElementarySteps.antt, each from where the work is done. Assumes nothing.
use Rattle.std.proofs.Common.{T, Float}
use lib.Ieee.{le}
use lib.Ieee.Fits.{and_i}
use Rattle.base.specs.Ranges.{is_to}
use Rattle.base.proofs.order.Order.{Between}
use Rattle.base.proofs.roots.NearestRoot as Nearest
use Rattle.base.proofs.rounding.DoubleRounding
use Rattle.base.proofs.steps.Terms
use Rattle.results.specs.ElementarySteps.{SqrtNearest, SqrtNarrow, Tied, NanAll, SinSize, CosSize, AtanSize, AcosRange, MinLaw, MaxLaw, MinOnly, MaxOnly}
use Rattle.results.proofs.numbers.NoNumbers
use Rattle.results.proofs.numbers.Bounds
use Rattle.results.proofs.numbers.MinMax

-- ---- the square root

pub sqrt_nearest : SqrtNearest
sqrt_nearest = Nearest.sqrt_nearest

pub sqrt_narrow : SqrtNarrow
sqrt_narrow = DoubleRounding.sqrt_narrow

-- ---- the elementary functions

pub tied : Tied
tied = Terms.tied

pub nan_all : NanAll
nan_all = NoNumbers.nan_all

pub sin_size : SinSize
sin_size = Bounds.sin_size

pub cos_size : CosSize
cos_size = Bounds.cos_size

pub atan_size : AtanSize
atan_size = Bounds.atan_size

-- `is_to` is the interval
is_to_law : (low high x : Float) → Between low high x → T (is_to low high x)
is_to_law low high x b = and_i (le low x) (le x high) b.low b.high

pub acos_range : AcosRange
acos_range v h = is_to_law _ _ _ (Bounds.acos_range v h)

-- ---- the lesser and the greater

pub min_law : MinLaw
min_law = MinMax.min_law

pub max_law : MaxLaw
max_law = MinMax.max_law

pub min_only : MinOnly
min_only = MinMax.min_only

pub max_only : MaxOnly
max_only = MinMax.max_only
