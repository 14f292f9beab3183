-- `put_fields_words` puts `fields_words`: after k turns the first k lines stand there.
use Rattle.std.proofs.Common.{ℕ, ◌+◌}
use Rattle.listing.specs.Text.{Puts}
use Rattle.listing.specs.Fields.{in_turn, field_line}
use Rattle.listing.proofs.fields.put_fields_words.Given as goal

abbrev pub invariant-loop-k : goal.invariant-loop-k
invariant-loop-k l = Puts l.initial.text (in_turn (λ (n : ℕ). field_line l.i (n + 1)) l.k) l.text
