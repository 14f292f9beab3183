-- The span of a place with a check's verdict, by whether it accepts. Assumes nothing.
use Rattle.std.proofs.Common.{◌≡◌, ℕ, List, cond, refl, Ok, Err}
use Rattle.std.specs.Result.{result_and}
use Rattle.base.specs.declared.tables.Place.{Place}
use Rattle.base.specs.Refusal.{Verdict, ◌then◌, is_accepted, written_over}
use Rattle.base.specs.MonthFile.{empty_part}
use Rattle.base.specs.Ranges.{month_check, model_check}
use Rattle.base.specs.Tables.{part_of, table_check, table_part}
use Rattle.base.specs.Year.{year_check, year_month_check, year_model_check}
use Rattle.jutetrowel.specs.Answers.{span_of, span_unless, placed}

-- a place beside a verdict is handed back where nothing is refused
pub place_unless :
    (v : Verdict) (at : Place) →
    placed (result_and v (Ok at)) ≡ span_unless v (record { from = at.start; size = at.size })
unfolding placed span_unless span_of
place_unless (Ok _) at = refl
place_unless (Err why) at = refl

-- the part that a check of a table hands back, from its start and its size
pub table_span :
    (k : ℕ) (f m : List ℕ) →
    span_unless (table_check k f m) (record { from = (part_of k).from; size = (part_of k).size })
    ≡ span_of (table_check k f m) (table_part k f m)
unfolding span_unless table_part
table_span k f m = go (table_check k f m)
  where
    go : (v : Verdict) →
        span_of v (written_over v (part_of k) empty_part) ≡ span_of v (cond (is_accepted v) (part_of k) empty_part)
    go (Ok _) = refl
    go (Err why) = refl

both : (a b : Verdict) → result_and a b ≡ (a then b)
both (Ok _) b = refl
both (Err why) b = refl

pub month_checked : (s : List ℕ) (m : ℕ) → result_and (month_check m) (year_check s) ≡ year_month_check s m
unfolding year_month_check
month_checked s m = both (month_check m) (year_check s)

pub model_checked : (s : List ℕ) (m : ℕ) → result_and (model_check m) (year_check s) ≡ year_model_check s m
unfolding year_model_check
model_checked s m = both (model_check m) (year_check s)

pub ruleset spans = (place_unless, table_span, month_checked, model_checked)
