-- `operation_in` is `operation_in`, by what is lent.
use Rattle.std.proofs.Common.{sym, ap, ◌∙◌}
use Rattle.worksheet.specs.declared.showing.Lent.{Lent}
use Rattle.listing.specs.Calls.{operation_in}
use Rattle.listing.proofs.call.operation_in.Goals as goal

pub returns-in-Pair : goal.returns-in-Pair
returns-in-Pair c = c.pair_operation.ensures ∙ sym (ap (λ (l : Lent). operation_in l c.args.operation) c.in-Pair.is)
