-- `with_line` goes on with a line, by what the line is.
use Rattle.std.proofs.Common.{arith}
use Rattle.auditing.proofs.journals.Turns.{goes_as, goes_blank, goes_wrong}
use Rattle.auditing.proofs.gathering.with_line.Goals as goal

pub returns-in-Blank : goal.returns-in-Blank
returns-in-Blank c =
    record { told = goes_as _ _ _ _ _ c.in-Blank.is (goes_blank _ _ _ _); count = omega (arith, c.requires) }

pub returns-in-Open : goal.returns-in-Open
returns-in-Open c =
    let e = c.with_open.ensures in
    record { told = goes_as _ _ _ _ _ c.in-Open.is (e.told _ _ _ _); count = omega (arith, c.requires) }

pub returns-in-Call : goal.returns-in-Call
returns-in-Call c =
    record { told = goes_as _ _ _ _ _ c.in-Call.is c.with_call.ensures.told; count = c.with_call.ensures.count }

pub returns-in-Wrong : goal.returns-in-Wrong
returns-in-Wrong c =
    let e = c.ended.ensures in
    record { told = goes_as _ _ _ _ _ c.in-Wrong.is (goes_wrong _ _ _ _ _ _ e); count = omega (arith, c.requires) }
