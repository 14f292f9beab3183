-- What is read is there and finite, by the check before it.
use Rattle.std.proofs.Common.{sym, ◌∙◌}
use Rattle.base.proofs.layout.Readers.{file_length, file_finite}
use Rattle.base.proofs.files.hmym.Goals as goal

pub hmym_of-requires : goal.hmym_of-requires
hmym_of-requires c =
    let e = sym c.file_check.ensures ∙ c.in_ok-file_check.was in
    (file_length _ e, file_finite _ e)
