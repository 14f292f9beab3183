-- `figures` answers `shown_of` and leaves `figures_buffer`: from files that are accepted the tables
-- are those of the files and give every figure.
use Rattle.std.proofs.Common.{◌≡◌, sym, ◌∙◌, rules, Ok}
use Rattle.base.specs.Index.{index_of}
use Rattle.base.specs.Blend.{cofion_of, hmym_of, fakmap_of}
use Rattle.base.specs.Files.{files_check}
use Rattle.base.proofs.layout.Readers.{files_index, files_finite}
use Rattle.maps.specs.Figures.{hour_of, figures_of, shown_of, figures_buffer}
use Rattle.maps.proofs.sheet.Checks.{written_is, good_same}
use Rattle.maps.proofs.figures.figures.Goals.{In_ok-redmap}
use Rattle.maps.proofs.figures.figures.Goals as goal

good : (c : In_ok-redmap) → files_check c.args.f2.now c.args.file.now ≡ Ok tt
good c = sym c.redmap.ensures.answer ∙ c.in_ok-redmap.was

pub invariant_of-index : goal.invariant_of-index
invariant_of-index c =
    let f2 = c.args.f2.now in
    let file = c.args.file.now in
    let e = good (goal.at.invariant_of-index c).In_ok-redmap in
    record { good = good_same file (files_index f2 file e) (written_is (index_of file) _ e c.redmap.ensures.index) }

pub fill_in-requires : goal.fill_in-requires
fill_in-requires c = (files_finite _ _ (good (goal.at.fill_in-requires c).In_ok-redmap), search rules)

pub returns-in_err-redmap : goal.returns-in_err-redmap
unfolding shown_of figures_buffer
returns-in_err-redmap c = search rules

pub returns : goal.returns
unfolding shown_of figures_buffer figures_of hour_of
returns c =
    let i = c.args.i in
    let f2 = c.args.f2.now in
    let file = c.args.file.now in
    let e = good (goal.at.returns c).In_ok-redmap in
    let index = written_is (index_of file) _ e c.redmap.ensures.index in
    let cofion = written_is (cofion_of f2 file i.ssn) _ e c.redmap.ensures.cofion in
    let hmym = written_is (hmym_of file i.ssn) _ e c.redmap.ensures.hmym in
    let fakmap = written_is (fakmap_of file) _ e c.redmap.ensures.fakmap in
    search rules
