-- `put_number` puts `decimal_of`: with k places to go, what is owed are the digits of those.
use Rattle.listing.specs.Text.{digits_below, decimal_of}
use Rattle.listing.proofs.pieces.Puts.{Owed}
use Rattle.listing.proofs.text.Text.put_number.Given as goal

abbrev pub invariant-loop-k : goal.invariant-loop-k
invariant-loop-k l = Owed l.initial.self (decimal_of l.n) l.self (digits_below l.n l.k)
