-- What is read is there, by the check before it.
use Rattle.std.proofs.Common.{sym, ◌∙◌}
use Rattle.base.proofs.layout.Readers.{index_length}
use Rattle.base.proofs.files.index.Goals as goal

pub index_of-requires : goal.index_of-requires
index_of-requires c = index_length _ (sym c.index_file_check.ensures ∙ c.in_ok-index_file_check.was)
