-- A buffer written from its start, one list after the other, starts with those lists; written to
-- its end it is them. Assumes nothing.
use Rattle.std.proofs.Common.{◌≡◌, ℕ, ◌+◌, List, ◌++◌, length, get_or, sym, ap, ◌∙◌, arith, ext_get_or}
use lib.Ieee.{Float, nan}
use Rattle.base.specs.Fill.{fill, tabulate}
use Rattle.base.proofs.lists.Fills.{length_run, run_at}
use Rattle.base.proofs.lists.Maps.{Starts, filled}

abbrev pub elements : List Float → ℕ → Float
elements l k = get_or l k nan

pub all_elements : (l : List Float) → tabulate (elements l) (length l) ≡ l
all_elements l =
    let n = length_run (elements l) (length l) in
    ext_get_or nan (tabulate (elements l) (length l)) l n (λ k h. run_at (elements l) (length l) k nan (omega arith))

-- the same, by other names
pub starts_as : {base rest base' rest' : ℕ} {xs ys l : List Float} → base ≡ base' → rest ≡ rest' → xs ≡ ys → Starts base rest xs l → Starts base' rest' ys l
starts_as b r x s = record { others = s.others; is = s.is ∙ ap (λ (v : List Float). v ++ s.others) x; before = ap length (sym x) ∙ s.before ∙ b; after = s.after ∙ r }

-- one more list, v, which is w
pub written :
    {base rest : ℕ} {xs l o : List Float} (v w : List Float) (n : ℕ) → v ≡ w → length w ≡ n → Starts base (n + rest) xs l →
    o ≡ fill (elements v) base l (length v) → Starts (base + n) rest (xs ++ w) o
written {base} {rest} {xs} {l} v w n e q s p =
    let k : length v ≡ n = ap length e ∙ q in
    let x : xs ++ tabulate (elements v) n ≡ xs ++ w = ap (λ (i : ℕ). xs ++ tabulate (elements v) i) (sym k) ∙ ap (λ (y : List Float). xs ++ y) (all_elements v ∙ e) in
    starts_as {ys = xs ++ w} (omega arith) (omega arith) x (filled (elements v) n s (p ∙ ap (fill (elements v) base l) k))
