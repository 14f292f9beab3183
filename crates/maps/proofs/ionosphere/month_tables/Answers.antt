-- `month_tables` answers `file_check`: a file that is accepted has an index table that is.
use Rattle.std.proofs.Common.{sym, ◌∙◌}
use Rattle.base.specs.Index.{index_of}
use Rattle.base.proofs.layout.Readers.{file_indexed, written}
use Rattle.maps.proofs.sheet.Checks.{written_is}
use Rattle.maps.proofs.ionosphere.month_tables.Goals as goal

pub returns : goal.returns
returns c =
    let file = c.args.file.now in
    let z = c.in_ok-hmym.was in
    let e = c.hmym.ensures.answer in
    let good = file_indexed file (sym e ∙ z) in
    let index = written_is (index_of file) _ good c.index.ensures.buffer in record {
      answer = c.index.ensures.answer ∙ good ∙ sym z ∙ e;
      index = written e _ z index;
      hmym = c.hmym.ensures.buffer;
    }
