-- What is gathered from a text line by line is what its first lines told: before the first, with one
-- line more, and where no more are left. Assumes nothing.
use Rattle.std.proofs.Common.{ℕ, ◌+◌, ◌<◌, ◌≤◌, List, ◌≡◌, sym, ap, subst, ◌∙◌, arith, length}
use Rattle.worksheet.specs.Showing.{Source}
use Rattle.wording.specs.declared.line.Line.{Line}
use Rattle.wording.specs.Line.{line_in}
use Rattle.auditing.specs.declared.gathering.Stage.TheVariants.{Waiting}
use Rattle.auditing.specs.Gathered.{Told, telling, told_by, line_at, GatheredNone, GatheredAs, Gathering, GatheringAs, GoesOn}
use Rattle.auditing.proofs.journals.Lines.{LinesTo, lines_start, is_line, lines_next, lines_done}
use Rattle.auditing.proofs.journals.Told.{told_none, told_next, told_all}

module _ (source : Source) (text : List ℕ) where
  -- n lines are read, which end at byte s
  pub record ReadTo (n s : ℕ) (h : Gathering) : Type 0 where
    pub lines : LinesTo text n s
    pub within : s ≤ length text
    pub few : h.gathered.count ≤ n
    pub gathered : GatheringAs source text (told_by text n) h

  pub read_none : (h : Gathering) → GatheredNone Waiting h.gathered → ReadTo 0 0 h
  unfolding GatheredAs
  read_none h q =
      let none = q.1 in
      record {
        lines = lines_start text;
        within = omega arith;
        few = omega arith;
        gathered = subst (λ (t : Told). GatheringAs source text t h) (sym (told_none text)) q;
      }

  -- the line from byte s on, which ends before `end`
  module _ (n s end : ℕ) (h : Gathering) (before : ReadTo n s h) (e : end ≡ s + length (line_at text s)) where
    pub read_next :
        (l : Line) (h' : Gathering) → end < length text → l ≡ line_in (line_at text s) → GoesOn source (n + 1) s l h h' →
        h'.gathered.count ≤ n + 1 → ReadTo (n + 1) (end + 1) h'
    unfolding GoesOn
    read_next l h' inside p g few =
        let line = is_line text n s end before.lines e inside in
        let told =
        told_next text n line.0
        ∙ ap (λ (x : List ℕ). telling (n + 1) (told_by text n) (line_in x)) line.1
        ∙ sym (ap (telling (n + 1) (told_by text n)) p) in
        record {
          lines = lines_next text n s end before.lines e inside;
          within = omega arith;
          few = few;
          gathered =
              subst (λ (t : Told). GatheringAs source text t h') (sym told)
              (g text (told_by text n) (record { within = before.within; said = sym p }) before.gathered);
        }

    -- no newline is left
    pub read_all : (k : ℕ) → length text ≤ end → n ≤ k → GatheringAs source text (told_by text k) h
    read_all k past most =
        subst (λ (t : Told). GatheringAs source text t h)
        (sym (told_all text n k (lines_done text n s end before.lines e past) most)) before.gathered
