-- `degrees_written` is `degrees_written`.
use Rattle.wording.proofs.written.degrees_written.Goals as goal

pub returns : goal.returns
returns c = λ t. record { 0 = c.float_of.ensures t }
