-- `seal` makes the buffer the year file of the parts that lie in it. The loop's invariant: the pairs
-- of the first k parts are written, and the part k starts at `at`; starts rise up to the file's end.
use Rattle.std.proofs.Common.{◌≡◌, refl, sym, ap, ◌∙◌, List, ◌++◌, ℕ, ◌+◌, ◌*◌, arith, length, get_or, drop}
use Rattle.base.specs.Fill.{fill}
use Rattle.packing.specs.Pack.{start_in, pairs_of, sealed_file}
use Rattle.packing.proofs.pairs.Starts.{start_more, start_rises}
use Rattle.packing.proofs.pairs.Written.{begun, byte_of, begun_next}
use Rattle.packing.proofs.pairs.Sealed.{sealed_file_law, sealed_none}
use Rattle.packing.proofs.seal.Goals as goal

pub returns-then-n-gt1048576 : goal.returns-then-n-gt1048576
returns-then-n-gt1048576 c =
    let a = c.args in
    let e = c.size_of_year-n.ensures in
    let none = sym (sealed_none a.sizes.now a.year.now (omega arith)) in
    record { file = ap (λ (x : List ℕ). x ++ a.year.now) none; count = ap length none; bound = omega arith }

pub loop-k-init : goal.loop-k-init
unfolding start_in pairs_of
loop-k-init c = (refl, refl)

pub overflow_add-at : goal.overflow_add-at
overflow_add-at c =
    let p = c in
    let s = p in
    let ns = s.args.sizes.now in
    let l = p.loop-k in
    let e = s.size_of_year-n.ensures in
    let i = l.invariant.0 in
    let n = start_more 112 ns l.k (omega arith) in
    omega (arith, start_rises 112 ns (l.k + 1) 14 (omega arith))

pub loop-k-preserved : goal.loop-k-preserved
loop-k-preserved c =
    let p = c in
    let a = p.args in
    let l = p.loop-k in
    let ns = a.sizes.now in
    let k = l.k in
    let h = l.invariant in (
      ap (λ (n : ℕ). n + get_or ns k 0) h.0 ∙ start_more 112 ns k (omega arith),
      c.put_word-in-loop-k.ensures
          ∙ ap (λ (x : List ℕ). fill (byte_of (get_or ns k 0)) (8 * k + 4) x 4)
          (c.put_word.ensures ∙ (λ i. fill (byte_of (h.0 i)) (8 * k) (h.1 i) 4))
          ∙ begun_next ns a.year.now k (omega arith) (omega arith),
    )

pub returns : goal.returns
returns c =
    let s = c in
    let a = s.args in
    let l = c.loop-k in
    let e : l.k ≡ 14 = omega arith in
    let z = s.size_of_year-n.ensures in
    let y : l.year ≡ begun a.sizes.now a.year.now 14 =
    l.invariant.1 ∙ ap (begun a.sizes.now a.year.now) e in
    let f = sealed_file_law a.sizes.now a.year.now (omega arith) (omega arith) (omega arith) in
    let l = a.year.now in record { file = y ∙ f.0 ∙ ap (λ (n : ℕ). sealed_file a.sizes.now l ++ drop n l) (sym z); count = z ∙ f.1; bound = omega arith }
