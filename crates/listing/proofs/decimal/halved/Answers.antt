-- `halved` is n over 2^s to the nearest: n over all factors of two but the last, halved to the
-- nearest.
use Rattle.std.proofs.Common.{sym, ap, ◌∙◌, ℕ, ◌+◌, ◌/◌, ◌%◌, ◌^◌, arith}
use Rattle.listing.specs.Decimal.{nearest_of}
use Rattle.listing.proofs.digits.Quotients.{nearest_none, to_nearest}
use Rattle.listing.proofs.decimal.halved.Goals as goal

pub returns-then-s-eq0 : goal.returns-then-s-eq0
returns-then-s-eq0 c =
    let n = c.args.n in
    sym (ap (λ (s : ℕ). nearest_of n (2 ^ s)) c.if-s-eq0.true ∙ nearest_none n)

pub returns : goal.returns
returns c =
    let a = c.args in
    ap (λ (h : ℕ). h / 2 + h % 2) c.divided-twice.ensures ∙ to_nearest a.n a.s (omega arith)
