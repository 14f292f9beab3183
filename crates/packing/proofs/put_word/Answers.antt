-- `put_word` copies the word's bytes over four of the buffer (`word_copied`).
use Rattle.std.proofs.Common.{◌≡◌, ℕ, ◌+◌, ◌-◌, ◌++◌, take, drop, ap, ◌∙◌, arith}
use Rattle.packing.proofs.pairs.Written.{word_copied}
use Rattle.packing.proofs.put_word.Goals as goal

pub returns : goal.returns
returns c =
    let a = c.args in
    let l = a.out.now in
    let xs = c.copy_from_slice.new.self in
    let e : a.at + 4 - a.at ≡ 4 = omega arith in
    ap (λ (n : ℕ). take a.at l ++ (xs ++ drop n (drop a.at l))) e
    ∙ word_copied a.w a.at l xs c.ranges.w.fits (omega (arith, c.told-out)) (c.copy_from_slice.ensures.after ∙ c.to_le_bytes.ensures)
