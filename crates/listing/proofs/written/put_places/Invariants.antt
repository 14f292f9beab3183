-- `put_places` puts `places_text`: with k places to go, what is owed are the digits of those.
use Rattle.listing.specs.Written.{places_text}
use Rattle.listing.proofs.pieces.Puts.{Owed}
use Rattle.listing.proofs.written.put_places.Given as goal

abbrev pub invariant-loop-k : goal.invariant-loop-k
invariant-loop-k l = Owed l.initial.text (places_text l.n l.places) l.text (places_text l.n l.k)
