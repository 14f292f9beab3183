-- How much text there is in what came of a call. Assumes nothing.
use Rattle.std.specs.Prelude.{ℕ, length}
use Rattle.office.specs.declared.say.Outcome.{Outcome}
use Rattle.office.specs.declared.say.Outcome.TheVariants.{Kept, Answered, Late, Failed, Unsure}

abbrev pub said_size : Outcome → ℕ
said_size (Kept text) = length text.now
said_size (Answered text) = length text.now
said_size (Late line text) = length text.now
said_size Failed = 0
said_size Unsure = 0
