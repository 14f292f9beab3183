-- What is read is there and finite, by the check before it.
use Rattle.std.proofs.Common.{sym, ◌∙◌}
use Rattle.base.proofs.layout.Readers.{files_record, files_length, files_record_finite, files_finite}
use Rattle.base.proofs.files.cofion.Goals as goal

pub cofion_of-requires : goal.cofion_of-requires
cofion_of-requires c =
    let e = sym c.files_check.ensures ∙ c.in_ok-files_check.was in
    (files_record _ _ e, files_length _ _ e, files_record_finite _ _ e, files_finite _ _ e)
