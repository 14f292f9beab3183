-- Changes make the inputs that the last change of each part makes: each change is of one part and
-- leaves the other six, so parts can be followed one by one. Assumes nothing.
use Rattle.std.proofs.Common.{ℕ, Bool, true, false, cond, List, [], ◌∷◌, ◌++◌, ◌≡◌, refl, sym, ap, ◌∙◌, eqb, eqb-true}
use Rattle.maps.specs.declared.inputs.Inputs.{Inputs}
use Rattle.worksheet.specs.declared.inputs.Edit.{Edit}
use Rattle.worksheet.specs.declared.inputs.Edit.TheVariants.{Sunspot, Hour, Path, Psc, Pole, Month, Model}
use Rattle.worksheet.specs.Inputs.{edited}
use Rattle.worksheet.specs.InForce.{changed}
use Rattle.auditing.specs.Provenance.{edit_part, StandingChange, last_of, edits_named}

-- ---- the last change of a part, over changes alone

last_edit : ℕ → List Edit → List Edit → List Edit
last_edit part o [] = o
last_edit part o (e ∷ l) = last_edit part (cond (eqb (edit_part e) part) (e ∷ []) o) l

last_edit_law : (part : ℕ) (o l : List StandingChange) → edits_named (last_of part o l) ≡ last_edit part (edits_named o) (edits_named l)
unfolding last_of last_edit edits_named
last_edit_law part o [] = refl
last_edit_law part o (x ∷ l) =
    last_edit_law part (cond (eqb (edit_part x.edit) part) (x ∷ []) o) l
    ∙ ap (λ (z : List Edit). last_edit part z (edits_named l)) (either (eqb (edit_part x.edit) part))
  where
    either : (b : Bool) → edits_named (cond b (x ∷ []) o) ≡ cond b (x.edit ∷ []) (edits_named o)
    either true = refl
    either false = refl

-- one change of this part, or none
abbrev Of : ℕ → List Edit → Type 0
Of part [] = Unit
Of part (e ∷ []) = edit_part e ≡ part
Of part (e ∷ f ∷ l) = ⊥

last_of_law : (part : ℕ) (o l : List Edit) → Of part o → Of part (last_edit part o l)
unfolding last_edit
last_of_law part o [] h = h
last_of_law part o (e ∷ l) h = last_of_law part (cond (eqb (edit_part e) part) (e ∷ []) o) l (either (eqb (edit_part e) part) refl)
  where
    either : (b : Bool) → eqb (edit_part e) part ≡ b → Of part (cond b (e ∷ []) o)
    either true q = eqb-true (edit_part e) part q
    either false q = h

-- ---- parts

-- i's parts for which p is true, and j's others
abbrev pub mixed : (ℕ → Bool) → Inputs → Inputs → Inputs
mixed p i j = record {
  month = cond (p 1) i.month j.month;
  ssn = cond (p 2) i.ssn j.ssn;
  gmt = cond (p 3) i.gmt j.gmt;
  route = cond (p 4) i.route j.route;
  psc = cond (p 5) i.psc j.psc;
  pole = cond (p 6) i.pole j.pole;
  model = cond (p 7) i.model j.model;
}

-- j with this part of i
abbrev put : ℕ → Inputs → Inputs → Inputs
put part i j = mixed (eqb part) i j

pub edited_part : (e : Edit) (i j : Inputs) → edited e j ≡ put (edit_part e) (edited e i) j
unfolding edited
edited_part (Sunspot x) i j = refl
edited_part (Hour x) i j = refl
edited_part (Path p) i j = refl
edited_part (Psc p) i j = refl
edited_part (Pole p) i j = refl
edited_part (Month m) i j = refl
edited_part (Model m) i j = refl

module _ (i : Inputs) where
  -- the inputs i, each part with its own changes
  abbrev parts : (ℕ → List Edit) → Inputs
  parts o = record {
    month = (changed i (o 1)).month;
    ssn = (changed i (o 2)).ssn;
    gmt = (changed i (o 3)).gmt;
    route = (changed i (o 4)).route;
    psc = (changed i (o 5)).psc;
    pole = (changed i (o 6)).pole;
    model = (changed i (o 7)).model;
  }

  -- one change more
  part_more : (e : Edit) (o : ℕ → List Edit) → edited e (parts o) ≡ parts (λ part. cond (eqb (edit_part e) part) (e ∷ []) (o part))
  unfolding edited changed
  part_more (Sunspot x) o = refl
  part_more (Hour x) o = refl
  part_more (Path p) o = refl
  part_more (Psc p) o = refl
  part_more (Pole p) o = refl
  part_more (Month m) o = refl
  part_more (Model m) o = refl

  all_parts : (l : List Edit) (o : ℕ → List Edit) → changed (parts o) l ≡ parts (λ part. last_edit part (o part) l)
  unfolding changed last_edit
  all_parts [] o = refl
  all_parts (e ∷ l) o =
      ap (λ (j : Inputs). changed j l) (part_more e o) ∙ all_parts l (λ part. cond (eqb (edit_part e) part) (e ∷ []) (o part))

  -- the changes of one part, on inputs that have i's there
  one_part : (part : ℕ) (o : List Edit) (j : Inputs) → Of part o → j ≡ put part i j → changed j o ≡ put part (changed i o) j
  unfolding changed
  one_part part [] j h same = same
  one_part part (e ∷ []) j h same = edited_part e i j ∙ ap (λ (p : ℕ). put p (edited e i) j) h
  one_part part (e ∷ f ∷ l) j h same = absurd h

  first_part : (part : ℕ) (o rest : List Edit) (j : Inputs) → Of part o → j ≡ put part i j
      → changed j (o ++ rest) ≡ changed (put part (changed i o) j) rest
  unfolding changed
  first_part part [] rest j h same = ap (λ (k : Inputs). changed k rest) same
  first_part part (e ∷ []) rest j h same = ap (λ (k : Inputs). changed k rest) (one_part part (e ∷ []) j h same)
  first_part part (e ∷ f ∷ l) rest j h same = absurd h

  -- the changes of all parts, one part after the other
  in_a_row : (o : ℕ → List Edit) → ((part : ℕ) → Of part (o part))
      → changed i (o 1 ++ (o 2 ++ (o 3 ++ (o 4 ++ (o 5 ++ (o 6 ++ o 7)))))) ≡ parts o
  in_a_row o h =
      let with : ℕ → Inputs → Inputs = λ part j. put part (changed i (o part)) j in
      let two = with 1 i in
      let three = with 2 two in
      let four = with 3 three in
      let five = with 4 four in
      let six = with 5 five in
      first_part 1 (o 1) _ i (h 1) refl
      ∙ first_part 2 (o 2) _ two (h 2) refl
      ∙ first_part 3 (o 3) _ three (h 3) refl
      ∙ first_part 4 (o 4) _ four (h 4) refl
      ∙ first_part 5 (o 5) _ five (h 5) refl
      ∙ first_part 6 (o 6) (o 7) six (h 6) refl
      ∙ one_part 7 (o 7) (with 6 six) (h 7) refl

  -- THE LAST CHANGES make what all changes make
  pub last_make : (l : List StandingChange) → let named : ℕ → List Edit = λ part. edits_named (last_of part [] l) in
      changed i (edits_named l) ≡ changed i (named 1 ++ (named 2 ++ (named 3 ++ (named 4 ++ (named 5 ++ (named 6 ++ named 7))))))
  unfolding changed edits_named
  last_make l =
      let named : ℕ → List Edit = λ part. edits_named (last_of part [] l) in
      let o : ℕ → List Edit = λ part. last_edit part [] (edits_named l) in
      let same : (part : ℕ) → o part ≡ named part = λ part. sym (last_edit_law part [] l) in
      all_parts (edits_named l) (λ part. [])
      ∙ sym (in_a_row o (λ part. last_of_law part [] (edits_named l) tt))
      ∙ (λ t. changed i (same 1 t ++ (same 2 t ++ (same 3 t ++ (same 4 t ++ (same 5 t ++ (same 6 t ++ same 7 t)))))))
