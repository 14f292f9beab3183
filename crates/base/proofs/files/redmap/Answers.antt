-- What is read is there and finite, by the check before it.
use Rattle.std.proofs.Common.{◌≡◌, sym, ◌∙◌, Ok}
use Rattle.base.specs.Files.{files_check}
use Rattle.base.proofs.layout.Readers.{files_record, files_length, files_record_finite, files_finite}
use Rattle.base.proofs.files.redmap.Goals.{In_ok-files_check}
use Rattle.base.proofs.files.redmap.Goals as goal

good : (c : In_ok-files_check) → files_check c.args.f2.now c.args.month.now ≡ Ok tt
good c = sym c.files_check.ensures ∙ c.in_ok-files_check.was

pub index_of-requires : goal.index_of-requires
index_of-requires c = files_length _ _ (good (goal.at.index_of-requires c).In_ok-files_check)

pub cofion_of-requires : goal.cofion_of-requires
cofion_of-requires c =
    let e = good (goal.at.cofion_of-requires c).In_ok-files_check in
    (files_record _ _ e, files_length _ _ e, files_record_finite _ _ e, files_finite _ _ e)

pub hmym_of-requires : goal.hmym_of-requires
hmym_of-requires c =
    let e = good (goal.at.hmym_of-requires c).In_ok-files_check in (files_length _ _ e, files_finite _ _ e)

pub fakmap_of-requires : goal.fakmap_of-requires
fakmap_of-requires c =
    let e = good (goal.at.fakmap_of-requires c).In_ok-files_check in (files_length _ _ e, files_finite _ _ e)
