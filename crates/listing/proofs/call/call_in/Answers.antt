-- `call_in` is `call_in`, by the operation's number: each arm is its row of the table of calls, and
-- a number that has no arm is 0 or past the table's end.
use Rattle.std.proofs.Common.{◌≡◌, sym, ap, ◌∙◌, List, ℕ, ◌≤◌, arith, Float}
use native.Mathlib.Decide.{dec_lt}
use lib.ListN.{get_or-eq_default}
use Rattle.worksheet.specs.declared.inputs.Edit.TheVariants.{Sunspot, Hour, Month, Model}
use Rattle.worksheet.specs.declared.journal.Call.TheVariants.{Begin, Commit, Cancel, Show}
use Rattle.listing.specs.declared.call.Read.TheVariants.{Call as Called}
use Rattle.listing.specs.Calls.{Operation, unknown, operations, change_in, call_in}
use Rattle.listing.proofs.call.call_in.Goals as goal

-- an operation that is this number
of_number : (s : List ℕ) {n : ℕ} (k : ℕ) → n ≡ k → call_in k s ≡ call_in n s
of_number s k e = sym (ap (λ (j : ℕ). call_in j s) e)

pub returns-in-1 : goal.returns-in-1
unfolding call_in
returns-in-1 c = ap (λ (d : ℕ). Called (Begin d)) c.word.ensures ∙ of_number _ 1 c.in-1.is

pub returns-in-2 : goal.returns-in-2
unfolding call_in
returns-in-2 c =
    let s = c.args.s.now in
    c.change_in.ensures ∙ ap (λ (x : Float). change_in s (Sunspot x)) c.float.ensures ∙ of_number s 2 c.in-2.is

pub returns-in-3 : goal.returns-in-3
unfolding call_in
returns-in-3 c =
    let s = c.args.s.now in
    c.change_in-in-3.ensures ∙ ap (λ (x : Float). change_in s (Hour x)) c.float-in-3.ensures ∙ of_number s 3 c.in-3.is

pub returns-in-4 : goal.returns-in-4
unfolding call_in
returns-in-4 c =
    let s = c.args.s.now in
    c.change_in-in-4.ensures ∙ ap (change_in s) c.path_in.ensures ∙ of_number s 4 c.in-4.is

pub returns-in-5 : goal.returns-in-5
unfolding call_in
returns-in-5 c =
    let s = c.args.s.now in
    c.change_in-in-5.ensures ∙ ap (change_in s) c.psc_in.ensures ∙ of_number s 5 c.in-5.is

pub returns-in-6 : goal.returns-in-6
unfolding call_in
returns-in-6 c =
    let s = c.args.s.now in
    c.change_in-in-6.ensures ∙ ap (change_in s) c.pole_in.ensures ∙ of_number s 6 c.in-6.is

pub returns-in-7 : goal.returns-in-7
unfolding call_in
returns-in-7 c = ap (λ (d : ℕ). Called (Commit d)) c.word-in-7.ensures ∙ of_number _ 7 c.in-7.is

pub returns-in-8 : goal.returns-in-8
unfolding call_in
returns-in-8 c = ap (λ (d : ℕ). Called (Cancel d)) c.word-in-8.ensures ∙ of_number _ 8 c.in-8.is

pub returns-in-9 : goal.returns-in-9
unfolding call_in
returns-in-9 c = of_number _ 9 c.in-9.is

pub returns-in-10 : goal.returns-in-10
unfolding call_in
returns-in-10 c = ap (λ (d : ℕ). Called (Show d)) c.word-in-10.ensures ∙ of_number _ 10 c.in-10.is

pub returns-in-11 : goal.returns-in-11
unfolding call_in
returns-in-11 c =
    let s = c.args.s.now in
    c.change_in-in-11.ensures ∙ ap (λ (x : ℕ). change_in s (Month x)) c.word-in-11.ensures ∙ of_number s 11 c.in-11.is

pub returns-in-12 : goal.returns-in-12
unfolding call_in
returns-in-12 c =
    let s = c.args.s.now in
    c.change_in-in-12.ensures ∙ ap (λ (x : ℕ). change_in s (Model x)) c.word-in-12.ensures ∙ of_number s 12 c.in-12.is

pub returns-in_default : goal.returns-in_default
unfolding call_in
returns-in_default c =
    let n = c.args.operation in
    let s = c.args.s.now in
    let r = c.in_default.in_default-own.rest in
    let p = r.0.0.0.0 in
    let q = p.0.0.0.0 in
    elim (dec_lt 12 n) [
      | yes h ↦ sym (ap (λ (o : Operation). o.call s) (get_or-eq_default operations unknown {n = n} (omega arith)))
      | no h ↦ let a : n ≤ 8 = omega (arith, h, r.1, r.0.1, r.0.0.1, r.0.0.0.1) in
          let b : n ≤ 4 = omega (arith, a, p.1, p.0.1, p.0.0.1, p.0.0.0.1) in
          let z : n ≡ 0 = omega (arith, b, q.1, q.0.1, q.0.0.1, q.0.0.0.1) in of_number s 0 z
    ]
