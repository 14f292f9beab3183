-- `table_place` is start and size of `part_of`: the source's rows are those of the parts, by
-- computation over the whole table.
use Rattle.std.proofs.Common.{◌≡◌, ℕ, List, [], ◌∷◌, map, get_or, sym, ap, ◌∙◌}
use lib.ListN.{get_or-map}
use Rattle.base.specs.MonthFile.{Part}
use Rattle.base.specs.Tables.{numbered, no_such_table, bytes_in, part_of}
use Rattle.base.proofs.layout.Parts.{no_part}
use Rattle.base.proofs.tables.table_place.Goals as goal

-- to a row of the source's table and back
abbrev row : Part → List ℕ
row p = p.from ∷ p.size ∷ []

abbrev of_row : List ℕ → Part
of_row l = record { from = get_or l 0 0; size = get_or l 1 0 }

abbrev rows : List (List ℕ)
rows = map row (map bytes_in numbered)

of_rows : (k : ℕ) → part_of k ≡ of_row (get_or rows k [])
unfolding part_of
of_rows k = sym (get_or-map bytes_in numbered k no_such_table) ∙ get_or-map of_row rows k []

pub returns-then-number-gt20 : goal.returns-then-number-gt20
returns-then-number-gt20 c =
    let e = no_part c.args.number c.if-number-gt20.true in
    record { start = sym (ap (λ (p : Part). p.from) e); size = sym (ap (λ (p : Part). p.size) e) }

pub returns : goal.returns
returns c =
    let e = of_rows c.args.number in
    record { start = sym (ap (λ (p : Part). p.from) e); size = sym (ap (λ (p : Part). p.size) e) }
