-- A text put into a buffer piece by piece: what stands there and what is still owed are the whole
-- text at every step. Assumes nothing.
use Rattle.std.proofs.Common.{◌≡◌, refl, sym, ap, ◌∙◌, ℕ, ◌+◌, List, [], ◌++◌, length, take, append_assoc, arith, length-append, append-nil}
use Rattle.listing.specs.declared.text.Text.{Text}
use Rattle.listing.specs.Text.{Puts, HasRoom}

pub nothing : (text : Text) → Puts text [] text
nothing t = record { text = sym (append-nil (take t.len t.out.now)); len = omega arith; size = refl; same = refl }

pub joined : {a b c : Text} {p q : List ℕ} → Puts a p b → Puts b q c → Puts a (p ++ q) c
joined {a} {p} {q} x y =
    let n = length-append p q in
    let d = x.len in
    let e = y.len in
    record {
      text = y.text ∙ ap (λ (l : List ℕ). l ++ q) x.text ∙ append_assoc (take a.len a.out.now) p q;
      len = omega arith;
      size = y.size ∙ x.size;
      same = y.same ∙ x.same;
    }

pub put_as : {a b : Text} {p q : List ℕ} → Puts a p b → p ≡ q → Puts a q b
put_as {a} x e =
    record {
      text = x.text ∙ ap (λ (l : List ℕ). take a.len a.out.now ++ l) e;
      len = x.len ∙ ap (λ (l : List ℕ). a.len + length l) e;
      size = x.size;
      same = x.same;
    }

-- ---- piece after piece, in a loop whose text goes on at its end

pub at_start : (text : Text) {piece : List ℕ} → piece ≡ [] → Puts text piece text
at_start text e = put_as (nothing text) (sym e)

pub one_further : {a b c : Text} {p q r : List ℕ} → Puts a p b → Puts b q c → r ≡ p ++ q → Puts a r c
one_further x y e = put_as (joined x y) (sym e)

-- ---- piece after piece, in a loop whose text goes on at its front

-- of `whole`, to be put behind `before`, all but `rest` stands in `now`
pub record Owed (before : Text) (whole : List ℕ) (now : Text) (rest : List ℕ) : Type 0 where
  pub text : take now.len now.out.now ++ rest ≡ take before.len before.out.now ++ whole
  pub len : now.len + length rest ≡ before.len + length whole
  pub size : length now.out.now ≡ length before.out.now
  pub same : now.out.ghost_name ≡ before.out.ghost_name

pub owing : (text : Text) (whole : List ℕ) → Owed text whole text whole
owing text whole = record { text = refl; len = refl; size = refl; same = refl }

-- there is room for the next piece
pub room :
    {before now : Text} {whole rest : List ℕ} (piece later : List ℕ) → Owed before whole now rest → rest ≡ piece ++ later →
    HasRoom before (length whole) → HasRoom now (length piece)
room piece later o e h =
    let n = length-append piece later in
    let m = ap length e in
    let a = o.len in
    let b = o.size in
    omega arith

-- the next piece is put
pub paid :
    {before now after : Text} {whole rest : List ℕ} (piece later : List ℕ) → Owed before whole now rest → rest ≡ piece ++ later →
    Puts now piece after → Owed before whole after later
paid {now = now} piece later o e p =
    let n = length-append piece later in
    let m = ap length e in
    let a = o.len in
    let b = p.len in
    record {
      text =
          ap (λ (l : List ℕ). l ++ later) p.text
          ∙ append_assoc (take now.len now.out.now) piece later
          ∙ ap (λ (l : List ℕ). take now.len now.out.now ++ l) (sym e)
          ∙ o.text;
      len = omega arith;
      size = p.size ∙ o.size;
      same = p.same ∙ o.same;
    }

pub settled : {before now : Text} {whole rest : List ℕ} → Owed before whole now rest → rest ≡ [] → Puts before whole now
settled {now = now} o e =
    let t = take now.len now.out.now in
    let m = ap length e in
    let a = o.len in
    record { text = sym (append-nil t) ∙ ap (λ (l : List ℕ). t ++ l) (sym e) ∙ o.text; len = omega arith; size = o.size; same = o.same }
