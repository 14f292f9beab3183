-- How much text is in the way of a walk over a journal's lines. Assumes nothing.
use Rattle.std.specs.Prelude.{ℕ, length}
use Rattle.office.specs.declared.audit.Obstacle.{Obstacle}
use Rattle.office.specs.declared.audit.Obstacle.TheVariants.{Fewer, Ends, Long}

abbrev pub obstacle_size : Obstacle → ℕ
obstacle_size (Fewer text) = length text.now
obstacle_size (Ends sitting text) = length text.now
obstacle_size Long = 0
