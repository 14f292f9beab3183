-- `put_lines` puts `lines_of`: what is owed after some turns are the lines of the numbers that follow.
use Rattle.std.proofs.Common.{◌+◌, get_or, drop}
use Rattle.std.specs.Float.{nan}
use Rattle.listing.specs.Answer.{line_of, lines_of}
use Rattle.listing.proofs.pieces.HexLines.{lines_from, no_lines}
use Rattle.listing.proofs.pieces.Puts.{owing, paid, room, settled}
use Rattle.listing.proofs.answer.put_lines.Goals as goal

pub loop-x-init : goal.loop-x-init
loop-x-init c = owing c.args.text.now (lines_of c.args.figures.now)

pub put_line-requires : goal.put_line-requires
put_line-requires c =
    let xs = c.args.figures.now in
    let k = c.loop-x.x-index in
    room (line_of (get_or xs k nan)) (lines_of (drop (k + 1) xs)) c.loop-x.invariant (lines_from xs k c.loop-x-test.true) c.requires

pub loop-x-preserved : goal.loop-x-preserved
loop-x-preserved c =
    let xs = c.args.figures.now in
    let k = c.loop-x.x-index in
    paid (line_of (get_or xs k nan)) (lines_of (drop (k + 1) xs)) c.loop-x.invariant (lines_from xs k c.loop-x-test.true) c.put_line.ensures

pub returns : goal.returns
returns c = settled c.loop-x.invariant (no_lines c.args.figures.now c.loop-x.x-index c.loop-x-test.false)
