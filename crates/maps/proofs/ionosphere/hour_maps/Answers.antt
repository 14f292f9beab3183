-- `hour_maps` answers `files_check`, and writes `hour_maps_of` or leaves the array: files that are
-- accepted have an index table that is.
use Rattle.std.proofs.Common.{◌≡◌, sym, ◌∙◌, rules, Ok}
use Rattle.base.specs.Index.{index_of}
use Rattle.base.specs.Blend.{cofion_of}
use Rattle.base.specs.Files.{files_check}
use Rattle.base.proofs.verdicts.Refusals.{refused_not_accepted}
use Rattle.base.proofs.layout.Readers.{file_indexed, files_file, files_index}
use Rattle.maps.specs.Ionosphere.{hour_maps_of}
use Rattle.maps.proofs.sheet.Checks.{written_is, good_same}
use Rattle.maps.proofs.ionosphere.hour_maps.Goals.{In_ok-cofion}
use Rattle.maps.proofs.ionosphere.hour_maps.Goals as goal

good : (c : In_ok-cofion) → files_check c.args.f2.now c.args.file.now ≡ Ok tt
good c = sym c.cofion.ensures.answer ∙ c.in_ok-cofion.was

pub invariant_of-virtim : goal.invariant_of-virtim
invariant_of-virtim c =
    let file = c.args.file.now in
    let e = good (goal.at.invariant_of-virtim c).In_ok-cofion in
    let index = written_is (index_of file) _ (file_indexed file (files_file _ file e)) c.index.ensures.buffer in
    record { good = good_same file (files_index _ file e) index }

pub returns-in_err-index : goal.returns-in_err-index
returns-in_err-index c =
    let indexed = file_indexed _ (files_file _ _ (good (goal.at.returns-in_err-index c).In_ok-cofion)) in
    refused_not_accepted (sym c.in_err-index.was ∙ c.index.ensures.answer ∙ indexed)

pub returns : goal.returns
unfolding hour_maps_of
returns c =
    let file = c.args.file.now in
    let e = good (goal.at.returns c).In_ok-cofion in
    let index = written_is (index_of file) _ (file_indexed file (files_file _ file e)) c.index.ensures.buffer in
    let cofion = written_is (cofion_of c.args.f2.now file c.args.ssn) _ e c.cofion.ensures.buffer in
    search rules
