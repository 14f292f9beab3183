-- `size_of_year` is where a part behind the last would start: behind the directory and the sum of
-- the sizes (`start_sum`).
use Rattle.std.proofs.Common.{◌≡◌, ◌+◌, ◌≤◌, sum, ap, ◌∙◌, arith, rules}
use Rattle.std.proofs.lemmas.List.Elements.{All-from_get_or}
use Rattle.std.proofs.lemmas.List.Sums.{sum_by-le}
use Rattle.std.proofs.iter.runs.Sources.{sums}
use Rattle.std.proofs.iter.runs.Made.{chains}
use Rattle.packing.specs.Pack.{start_in}
use Rattle.packing.proofs.pairs.Starts.{start_sum}
use Rattle.packing.proofs.size_of_year.Goals.{After-sum}
use Rattle.packing.proofs.size_of_year.Goals as goal

total : (c : After-sum) → c.sum.result ≡ sum c.args.sizes.now
total c = search (rules, chains)

pub sum-requires-clause-fits : goal.sum-requires-clause-fits
sum-requires-clause-fits c = search (rules, sums)

pub overflow_add-result : goal.overflow_add-result
overflow_add-result c =
    let ns = c.args.sizes.now in
    let each = All-from_get_or (λ n. n ≤ 4294967295) ns 0 (λ i h. omega (arith, c.fits-sizes i)) in
    omega (arith, total (goal.at.overflow_add-result c).After-sum, c.told-sizes, sum_by-le (λ n. n) 4294967295 ns each)

pub returns : goal.returns
returns c =
    let ns = c.args.sizes.now in
    ap (λ n. 112 + n) (total (goal.at.returns c).After-sum) ∙ start_sum 112 ns ∙ ap (start_in 112 ns) c.told-sizes
