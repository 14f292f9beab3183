-- `jt_from_i32` is the `f32` of its number: an `i32` is read back as the number that it holds.
use Rattle.std.proofs.Common.{rules, to_z-of_z}
use Rattle.jutetrowel.proofs.numbers.jt_from_i32.Goals as goal

pub returns : goal.returns
returns c = search (rules, to_z-of_z)
