-- `put_lines` puts `lines_of`: what is owed after some turns are the lines of the numbers that follow.
use Rattle.std.proofs.Common.{drop}
use Rattle.listing.specs.Answer.{lines_of}
use Rattle.listing.proofs.pieces.Puts.{Owed}
use Rattle.listing.proofs.answer.put_lines.Given as goal

abbrev pub invariant-loop-x : goal.invariant-loop-x
invariant-loop-x l = Owed l.initial.text (lines_of l.figures) l.text (lines_of (drop l.x-index l.figures))
