-- A worksheet that is written and read is the same worksheet, if its numbers are values of an f32;
-- what is read off words always is such a one. By sets: the words of each stand whole where they
-- are read. Assumes nothing.
use Rattle.std.proofs.Common.{None, Option, Some, ◌≡◌, refl, sym, ap, ◌∙◌, Bool, true, false, cond, List, [], ◌++◌, append-nil, ℕ, ◌+◌, arith, eqb, length, get_or, get_or-append-add}
use Rattle.maps.specs.Inputs.{route_from, factors_from, pole_from, inputs_from, field_words, Singles}
use Rattle.maps.specs.declared.inputs.Inputs.{Inputs}
use Rattle.maps.proofs.sheet.Codec.{fields_back, from_single}
use Rattle.worksheet.specs.declared.desks.Draft.{Draft}
use Rattle.worksheet.specs.declared.desks.Draft.TheVariants.{Closed, Fresh, Stale}
use Rattle.worksheet.specs.declared.desks.Worksheet.{Worksheet}
use Rattle.jutetrowel.specs.Words.{word_in, field_in, inputs_in, earlier_in, draft_in, worksheet_of, set_words, earlier_words, draft_words, sheet_words, EarlierSingles, DraftSingles, SheetSingles}
use Rattle.jutetrowel.proofs.crossing.Stored.{set_length, earlier_length, draft_length}

-- ---- a set read where it stands first

inputs_back : (what : ℕ) (i : Inputs) (rest : List ℕ) → Singles i → inputs_in (set_words what i ++ rest) 0 ≡ i
unfolding inputs_in inputs_from route_from factors_from pole_from set_words field_words
inputs_back what i rest h = fields_back i h

earlier_back : (e : Option Inputs) (rest : List ℕ) → EarlierSingles e → earlier_in (earlier_words e ++ rest) 0 ≡ e
unfolding earlier_in earlier_words set_words
earlier_back None rest h = refl
earlier_back (Some i) rest h = ap Some (inputs_back 1 i rest h)

draft_back : (d : Draft) (rest : List ℕ) → DraftSingles d → draft_in (draft_words d ++ rest) 0 ≡ d
unfolding draft_in draft_words set_words
draft_back Closed rest h = refl
draft_back (Fresh i) rest h = ap Fresh (inputs_back 1 i rest h)
draft_back (Stale i) rest h = ap Stale (inputs_back 2 i rest h)

-- ---- a set read behind another

module _ (v rest : List ℕ) (n : length v ≡ 16) where
  behind : (k : ℕ) → word_in (v ++ rest) (16 + k) ≡ word_in rest k
  behind k = ap (λ (m : ℕ). get_or (v ++ rest) (m + k) 0) (sym n) ∙ get_or-append-add v rest k 0

  further : (at k : ℕ) → field_in (v ++ rest) (16 + at) k ≡ field_in rest at k
  further at k =
      let e : 16 + at + 1 + k ≡ 16 + (at + 1 + k) = omega arith in
      ap (word_in (v ++ rest)) e ∙ behind (at + 1 + k)

  inputs_behind : (at : ℕ) → inputs_in (v ++ rest) (16 + at) ≡ inputs_in rest at
  unfolding inputs_in
  inputs_behind at = λ t. inputs_from (λ (k : ℕ). further at k t)

  earlier_behind : (at : ℕ) → earlier_in (v ++ rest) (16 + at) ≡ earlier_in rest at
  unfolding earlier_in
  earlier_behind at =
      let x = behind at in
      let i = inputs_behind at in
      λ t. cond (eqb (x t) 0) None (Some (i t))

  draft_behind : (at : ℕ) → draft_in (v ++ rest) (16 + at) ≡ draft_in rest at
  unfolding draft_in
  draft_behind at =
      let x = behind at in
      let i = inputs_behind at in
      λ t. cond (eqb (x t) 0) Closed (cond (eqb (x t) 1) (Fresh (i t)) (Stale (i t)))

-- ---- the worksheet

module _ (w : Worksheet) (h : SheetSingles w) where
  abbrev v0 : List ℕ
  v0 = set_words 1 w.inputs

  abbrev v1 : List ℕ
  v1 = earlier_words w.earlier

  abbrev v2 : List ℕ
  v2 = draft_words w.d1

  abbrev v3 : List ℕ
  v3 = draft_words w.d2

  abbrev v4 : List ℕ
  v4 = draft_words w.d3

  abbrev v5 : List ℕ
  v5 = draft_words w.d4

  n0 : length v0 ≡ 16
  n0 = set_length 1 w.inputs

  n1 : length v1 ≡ 16
  n1 = earlier_length w.earlier

  n2 : length v2 ≡ 16
  n2 = draft_length w.d1

  n3 : length v3 ≡ 16
  n3 = draft_length w.d2

  n4 : length v4 ≡ 16
  n4 = draft_length w.d3

  pub read_back : worksheet_of (sheet_words w) ≡ w
  unfolding worksheet_of sheet_words
  read_back =
      let r4 = v4 ++ v5 in
      let r3 = v3 ++ r4 in
      let r2 = v2 ++ r3 in
      let r1 = v1 ++ r2 in
      let inputs = inputs_back 1 w.inputs r1 h.inputs in
      let earlier = earlier_behind v0 r1 n0 0 ∙ earlier_back w.earlier r2 h.earlier in
      let d1 = draft_behind v0 r1 n0 16 ∙ draft_behind v1 r2 n1 0 ∙ draft_back w.d1 r3 h.d1 in
      let d2 =
      draft_behind v0 r1 n0 32 ∙ draft_behind v1 r2 n1 16 ∙ draft_behind v2 r3 n2 0 ∙ draft_back w.d2 r4 h.d2 in
      let d3 =
      draft_behind v0 r1 n0 48 ∙ draft_behind v1 r2 n1 32 ∙ draft_behind v2 r3 n2 16 ∙ draft_behind v3 r4 n3 0
      ∙ draft_back w.d3 v5 h.d3 in
      let last = ap (λ (x : List ℕ). draft_in x 0) (sym (append-nil v5)) ∙ draft_back w.d4 [] h.d4 in
      let d4 =
      draft_behind v0 r1 n0 64 ∙ draft_behind v1 r2 n1 48 ∙ draft_behind v2 r3 n2 32 ∙ draft_behind v3 r4 n3 16
      ∙ draft_behind v4 v5 n4 0 ∙ last in
      λ t. record { inputs = inputs t; earlier = earlier t; d1 = d1 t; d2 = d2 t; d3 = d3 t; d4 = d4 t }

-- ---- what is read off words

module _ (l : List ℕ) where
  inputs_single : (at : ℕ) → Singles (inputs_in l at)
  unfolding inputs_in
  inputs_single at = from_single (field_in l at)

  earlier_single : (at : ℕ) → EarlierSingles (earlier_in l at)
  unfolding earlier_in
  earlier_single at = go (eqb (word_in l at) 0)
    where
      go : (b : Bool) → EarlierSingles (cond b None (Some (inputs_in l at)))
      go true = tt
      go false = inputs_single at

  draft_single : (at : ℕ) → DraftSingles (draft_in l at)
  unfolding draft_in
  draft_single at = go (eqb (word_in l at) 0) (eqb (word_in l at) 1)
    where
      go : (a b : Bool) → DraftSingles (cond a Closed (cond b (Fresh (inputs_in l at)) (Stale (inputs_in l at))))
      go true b = tt
      go false true = inputs_single at
      go false false = inputs_single at

  pub read_single : SheetSingles (worksheet_of l)
  unfolding worksheet_of
  read_single =
      record {
        inputs = inputs_single 0;
        earlier = earlier_single 16;
        d1 = draft_single 32;
        d2 = draft_single 48;
        d3 = draft_single 64;
        d4 = draft_single 80;
      }
