-- `layer_parameters_at` is `layers_at_of`: where month and file are accepted, the tables are the
-- file's own.
use Rattle.std.proofs.Common.{◌≡◌, sym, ◌∙◌, rules, Ok}
use lib.Ieee.{of_bits, round}
use Rattle.base.specs.Single.{decimal}
use Rattle.base.specs.Index.{index_of}
use Rattle.base.specs.Blend.{hmym_of}
use Rattle.maps.specs.Ionosphere.{layers_check, no_layers, layers_at_of}
use Rattle.maps.proofs.sheet.Checks.{written_is, good_same, layers_index, layers_finite}
use Rattle.maps.proofs.ionosphere.layer_parameters_at.Goals.{In-Ok}
use Rattle.maps.proofs.ionosphere.layer_parameters_at.Goals as goal

good : (c : In-Ok) → layers_check c.args.inputs.month c.args.file.now ≡ Ok tt
good c = sym c.layer_tables.ensures.answer ∙ c.in-Ok.is

pub monthly_of-m-requires : goal.monthly_of-m-requires
monthly_of-m-requires c = layers_finite _ _ (good c)

pub invariant_of-index : goal.invariant_of-index
invariant_of-index c =
    let file = c.args.file.now in
    let e = good (goal.at.invariant_of-index c).In-Ok in
    record { good = good_same file (layers_index _ file e) (written_is (index_of file) _ e c.layer_tables.ensures.index) }

pub returns-in-Ok : goal.returns-in-Ok
unfolding layers_at_of
returns-in-Ok c =
    let i = c.args.inputs in
    let file = c.args.file.now in
    let e = good (goal.at.returns-in-Ok c).In-Ok in
    let index = written_is (index_of file) _ e c.layer_tables.ensures.index in
    let hmym = written_is (hmym_of file i.ssn) _ e c.layer_tables.ensures.hmym in
    search rules

-- the zeros are opened, so that what is compared is each parameter's value
pub returns-in-Err : goal.returns-in-Err
unfolding layers_at_of no_layers decimal round of_bits
returns-in-Err c = search rules
