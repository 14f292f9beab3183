-- `push` gives the buffer one place, by whether there is room.
use Rattle.auditing.proofs.places.Piles.{given_in, given_past}
use Rattle.auditing.proofs.marks.push.Goals as goal

pub returns-then-size-out : goal.returns-then-size-out
returns-then-size-out c = let a = c.args in given_in a.size a.place a.out.now c.if-size-out.true

pub returns-else-size-out : goal.returns-else-size-out
returns-else-size-out c = let a = c.args in given_past a.size a.place a.out.now c.if-size-out.false
