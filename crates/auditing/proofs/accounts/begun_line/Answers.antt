-- `begun_line` writes `begun_line`: refusal, fate and line, call after call.
use Rattle.std.proofs.Common.{None, ℕ, ◌-◌, ap, ◌∙◌, add-one}
use Rattle.auditing.specs.Marks.{fate_from, refused_from}
use Rattle.auditing.specs.Accounts.{balked_by, fate_line, begun_line}
use Rattle.auditing.proofs.accounts.begun_line.Goals as goal

pub returns : goal.returns
unfolding begun_line
returns c =
    let a = c.args in
    let ms = a.marks.now in
    let next = add-one a.p in
    let fate =
    c.fate_in-fate.ensures ∙ ap (λ (i : ℕ). fate_from ms a.n i (a.count - i)) next in
    let refused =
    c.refused_in-refused.ensures ∙ ap (λ (i : ℕ). refused_from ms a.n None i (a.count - i)) next in
    let balked = c.balked_by-balked.ensures ∙ ap (balked_by a.numbers.now) refused in
    let begun = c.number_at-begun.ensures in
    let e = c.fate_line.ensures in
    record { text = e.text ∙ (λ i. fate_line a.numbers.now a.n (begun i) (balked i) (fate i)); count = e.count }
