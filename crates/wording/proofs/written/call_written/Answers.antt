-- `call_written` is `call_written`, by the case that the call is.
use Rattle.std.proofs.Common.{sym, ap, ◌∙◌}
use Rattle.wording.specs.Written.{call_written}
use Rattle.worksheet.specs.declared.journal.Call.TheVariants as call
use Rattle.wording.proofs.written.call_written.Goals as goal

pub returns-in-Begin : goal.returns-in-Begin
unfolding call_written
returns-in-Begin c = sym (ap call_written c.in-Begin.is)

pub returns-in-Change : goal.returns-in-Change
unfolding call_written
returns-in-Change c = ap (call.Change c.in-Change.n) c.edit_written.ensures ∙ sym (ap call_written c.in-Change.is)

pub returns-in-Commit : goal.returns-in-Commit
unfolding call_written
returns-in-Commit c = sym (ap call_written c.in-Commit.is)

pub returns-in-Cancel : goal.returns-in-Cancel
unfolding call_written
returns-in-Cancel c = sym (ap call_written c.in-Cancel.is)

pub returns-in-TakeBack : goal.returns-in-TakeBack
unfolding call_written
returns-in-TakeBack c = sym (ap call_written c.in-TakeBack.is)

pub returns-in-Show : goal.returns-in-Show
unfolding call_written
returns-in-Show c = sym (ap call_written c.in-Show.is)
