-- `put_field_value` puts `field_value`, by the field: the flag and the model by name, and the others
-- but the month as decimals.
use Rattle.std.proofs.Common.{ap, ◌∙◌, arith}
use Rattle.wording.specs.Token.{ascii}
use Rattle.listing.specs.Decimal.{decimal_text}
use Rattle.listing.specs.Fields.{flag_name}
use Rattle.listing.specs.Survey.{model_name}
use Rattle.listing.proofs.pieces.Named.{single_value, length_flag}
use Rattle.listing.proofs.pieces.Puts.{put_as}
use Rattle.listing.proofs.pieces.Reasons.{length_model}
use Rattle.listing.proofs.pieces.Series.{length_right}
use Rattle.listing.proofs.fields.put_field_value.Goals as goal

pub put_right-requires : goal.put_right-requires
put_right-requires c =
    let flag = c.args.i.route.long_path in
    let a = length_flag flag in
    let b = length_right (ascii (flag_name flag)) 16 (omega arith) (omega arith) in
    rw c.flag_name.ensures (omega arith)

pub put_right-requires-in-15 : goal.put_right-requires-in-15
put_right-requires-in-15 c =
    let model = c.args.i.model in
    let a = length_model model in
    let b = length_right (ascii (model_name model)) 16 (omega arith) (omega arith) in
    rw c.model_name.ensures (omega arith)

pub returns-in_default : goal.returns-in_default
returns-in_default c =
    let i = c.args.i in
    let k = c.args.k in
    put_as c.put_float.ensures
    (ap decimal_text c.single.ensures
    ∙ single_value i k (omega arith) (omega arith) (λ e. omega arith) (λ e. omega arith) (λ e. omega arith))
