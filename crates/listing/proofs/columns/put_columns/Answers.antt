-- `put_columns` puts `columns_text`: fields, path, head and points, joined.
use Rattle.std.proofs.Common.{ℕ, ap}
use Rattle.listing.specs.Columns.{points_head, side_rows, columns_text}
use Rattle.listing.proofs.pieces.Puts.{put_as, joined}
use Rattle.listing.proofs.columns.put_columns.Goals as goal

pub returns : goal.returns
unfolding columns_text
returns c =
    let e = c.points_abreast-n.ensures.answer in
    joined c.put_fields_words.ensures
    (joined c.put.ensures
    (joined c.put_side_rows.ensures
    (joined c.put-2.ensures
    (joined (put_as c.put_points_head.ensures (ap points_head e))
    (put_as c.put_side_rows-2.ensures (ap (λ (n : ℕ). side_rows 18 c.args.figures.now 6 n 29) e))))))
