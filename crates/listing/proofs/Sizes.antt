-- How long each text is at most, and what a test decides, as one list for the tactics. Assumes nothing.
use Rattle.std.proofs.lemmas.Bool.Decides.{nat_tests}
use Rattle.listing.proofs.digits.Places.{at_most_10, at_most_20}
use Rattle.listing.proofs.digits.Values.{either, length_decimal, length_minus}
use Rattle.listing.proofs.pieces.Abreast.{length_cells, length_columns, length_head, length_numbers, length_sides}
use Rattle.listing.proofs.pieces.Accounts.{length_at_line, length_balked, length_became, length_came, length_came_text}
use Rattle.listing.proofs.pieces.Fractions.{few_places, length_fraction}
use Rattle.listing.proofs.pieces.HexLines.{length_line, length_lines, length_points}
use Rattle.listing.proofs.pieces.Named.{length_field, length_field_value, length_fields, length_first}
use Rattle.listing.proofs.pieces.Reasons.{length_found, length_model, length_reason, length_refusal, length_refused}
use Rattle.listing.proofs.pieces.Rows.{length_fields as length_page_fields, length_its_unit, length_long, length_points as length_page_points, length_rows, length_value}
use Rattle.listing.proofs.pieces.Sayings.{length_handed, length_mark, length_noun, length_verdict}
use Rattle.listing.proofs.pieces.Series.{length_right}

pub ruleset sizes = (
  nat_tests,
  at_most_10,
  at_most_20,
  length_at_line,
  length_balked,
  length_became,
  length_came,
  length_came_text,
  length_field,
  length_field_value,
  length_fields,
  length_first,
  length_line,
  length_lines,
  length_points,
  length_found,
  length_model,
  length_reason,
  length_refusal,
  length_refused,
  either,
  length_decimal,
  length_minus,
  length_cells,
  length_columns,
  length_head,
  length_numbers,
  length_sides,
  length_page_fields,
  length_its_unit,
  length_long,
  length_page_points,
  length_rows,
  length_value,
  length_handed,
  length_mark,
  length_noun,
  length_verdict,
  length_right,
  few_places,
  length_fraction,
)
