-- `put_figures` writes `figures_to`, by the loop's invariant that the buffer starts with the path's
-- figures and p rows.
use Rattle.std.proofs.Common.{◌≡◌, ℕ, ◌+◌, ◌*◌, ◌++◌, length, sym, ap, ◌∙◌, refl, add-one, arith}
use Rattle.std.proofs.lemmas.Grind.{common_steps}
use Rattle.std.proofs.lemmas.Slice.{take-put_mid}
use Rattle.maps.specs.declared.inputs.Inputs.{Inputs}
use Rattle.maps.specs.declared.geometry.PathGeometry.{PathGeometry}
use Rattle.maps.specs.Figures.{SheetHour, shared, head_of, figure_row, figures_to}
use Rattle.maps.proofs.sheet.Alone.{row_length}
use Rattle.maps.proofs.figures.Hour.put_figures.Goals as goal

head_length : (g : PathGeometry) → length (head_of g) ≡ 6
unfolding head_of
head_length g = refl

figures_first : (h : SheetHour) (i : Inputs) (g : PathGeometry) → head_of g ≡ figures_to h i g 0
unfolding figures_to
figures_first h i g = refl

figures_next : (h : SheetHour) (i : Inputs) (g : PathGeometry) (p : ℕ) → figures_to h i g p ++ figure_row h i g p ≡ figures_to h i g (p + 1)
unfolding figures_to
figures_next h i g p = sym (ap (figures_to h i g) (add-one p))

pub loop-p-init : goal.loop-p-init
loop-p-init c =
    let a = c.args in
    let e = c.copy_from_slice.ensures.after ∙ c.head.ensures in
    let n = ap length e ∙ head_length a.g in
    record {
      long = (let r = c.requires in grind (arith, common_steps));
      starts =
          take-put_mid 0 6 a.out.now c.copy_from_slice.new.self 6 (omega arith) (omega arith)
          ∙ e ∙ figures_first (shared a.self.now) a.i a.g;
    }

pub loop-p-preserved : goal.loop-p-preserved
loop-p-preserved c =
    let a = c.args in
    let l = c.loop-p in
    let h = shared a.self.now in
    let e = c.copy_from_slice-in-loop-p.ensures.after ∙ c.row.ensures in
    let n = ap length e ∙ row_length h a.i a.g l.p in
    let s = l.invariant.starts in
    record {
      long = (let r = l.invariant.long in let t = c.loop-p-test.true in grind (arith, common_steps));
      starts =
          take-put_mid (6 + 29 * l.p) _ l.out c.copy_from_slice-in-loop-p.new.self (6 + 29 * (l.p + 1)) (omega arith) (omega (arith, l.invariant.long))
          ∙ (λ t. s t ++ e t)
          ∙ figures_next h a.i a.g l.p;
    }
