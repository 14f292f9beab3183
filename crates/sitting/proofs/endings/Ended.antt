-- A hearing that ends the journal, from what is said of it. Assumes nothing.
use Rattle.std.proofs.Common.{ℕ, List, ◌≡◌, take, sym, ap, subst, ◌∙◌}
use Rattle.io.specs.Counts.{IsPrefixLen}
use Rattle.sitting.specs.declared.Heard.{Heard}
use Rattle.sitting.specs.declared.Sitting.{Sitting}
use Rattle.sitting.specs.Sitting.{Hearing, ended_by, ended_with}

pub ended_as :
    {h : Heard} {size : ℕ} {said : List ℕ} {s t : Sitting} (heard : Sitting → Hearing) (out : List ℕ) →
    h ≡ record { sitting = ended_by s; size = size } → take size out ≡ said → IsPrefixLen size out →
    s ≡ t → heard t ≡ ended_with t said →
    let x = heard s in
    record { sitting : h.sitting ≡ x.sitting; text : take h.size out ≡ x.text; count : IsPrefixLen h.size out }
ended_as {h} {size} {said} heard out e text count is ends =
    let told = ap heard is ∙ ends ∙ sym (ap (λ (y : Sitting). ended_with y said) is) in
    record {
      sitting = ap (λ (y : Heard). y.sitting) e ∙ sym (ap (λ (y : Hearing). y.sitting) told);
      text = ap (λ (y : Heard). take y.size out) e ∙ text ∙ sym (ap (λ (y : Hearing). y.text) told);
      count = subst (λ (y : Heard). IsPrefixLen y.size out) (sym e) count;
    }
