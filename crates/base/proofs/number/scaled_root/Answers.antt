-- `scaled_root` is the exponent's half and the digits' root, by `nearest_root`.
use Rattle.std.proofs.Common.{ℕ, ◌%◌, ◌^◌, ◌≤◌, sym, subst, arith}
use Rattle.base.proofs.roots.Rooted.{at_most, root_small}
use Rattle.base.proofs.number.scaled_root.Goals as goal

pub overflow_mul-m : goal.overflow_mul-m
overflow_mul-m c = omega (arith, at_most c.args.m (c.args.f % 2))

pub nearest_root-requires : goal.nearest_root-requires
nearest_root-requires c = omega (arith, at_most c.args.m (c.args.f % 2))

pub overflow_add-result-2 : goal.overflow_add-result-2
overflow_add-result-2 c =
    let s = c in
    let r : c.nearest_root.result ≤ 2 ^ 53 = subst (λ (x : ℕ). x ≤ 2 ^ 53) (sym c.nearest_root.ensures) (root_small s.args.m (s.args.f % 2) s.requires.1) in
    omega arith
