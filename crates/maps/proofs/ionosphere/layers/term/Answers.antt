-- `term` is its two words' numbers.
use Rattle.maps.proofs.ionosphere.layers.term.Goals as goal

pub returns : goal.returns
returns c = rw (c.number_at-2.ensures, c.number_at.ensures)
