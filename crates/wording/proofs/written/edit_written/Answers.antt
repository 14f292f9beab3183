-- `edit_written` is `edit_written`, by the case that the edit is.
use Rattle.std.proofs.Common.{sym, ap, ◌∙◌}
use Rattle.wording.specs.Written.{edit_written}
use Rattle.worksheet.specs.declared.inputs.Edit.TheVariants as edit
use Rattle.wording.proofs.written.edit_written.Goals as goal

pub returns-in-Sunspot : goal.returns-in-Sunspot
unfolding edit_written
returns-in-Sunspot c = ap edit.Sunspot c.float_of.ensures ∙ sym (ap edit_written c.in-Sunspot.is)

pub returns-in-Hour : goal.returns-in-Hour
unfolding edit_written
returns-in-Hour c = ap edit.Hour c.float_of-in-Hour.ensures ∙ sym (ap edit_written c.in-Hour.is)

pub returns-in-Path : goal.returns-in-Path
unfolding edit_written
returns-in-Path c = ap edit.Path c.route_written.ensures ∙ sym (ap edit_written c.in-Path.is)

pub returns-in-Psc : goal.returns-in-Psc
unfolding edit_written
returns-in-Psc c = ap edit.Psc c.factors_written.ensures ∙ sym (ap edit_written c.in-Psc.is)

pub returns-in-Pole : goal.returns-in-Pole
unfolding edit_written
returns-in-Pole c = ap edit.Pole c.pole_written.ensures ∙ sym (ap edit_written c.in-Pole.is)

pub returns-in-Month : goal.returns-in-Month
unfolding edit_written
returns-in-Month c = sym (ap edit_written c.in-Month.is)

pub returns-in-Model : goal.returns-in-Model
unfolding edit_written
returns-in-Model c = sym (ap edit_written c.in-Model.is)
