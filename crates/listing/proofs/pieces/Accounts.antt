-- The lines of an audit's page: how long each part is at most, by its case. Assumes nothing.
use Rattle.std.proofs.Common.{None, Option, Some, ℕ, ◌≤◌, arith, length, length-append}
use Rattle.maps.specs.declared.inputs.Inputs.{Inputs}
use Rattle.listing.specs.declared.account.Came.{Came}
use Rattle.listing.specs.declared.account.Came.TheVariants.{Opened, Set}
use Rattle.listing.specs.declared.account.Became.{Became}
use Rattle.listing.specs.declared.account.Became.TheVariants.{TakenBack, Cancelled, Never}
use Rattle.listing.specs.Account.{at_line, came_words, came_text, became_words, balked_words}
use Rattle.listing.proofs.digits.Places.{at_most_20}
use Rattle.listing.proofs.pieces.Named.{length_field}

pub length_at_line : (line : ℕ) → length (at_line line) ≤ 29
unfolding at_line
length_at_line line =
    let a = at_most_20 line in
    simp length-append (omega arith)

pub length_came : (came : Came) → length (came_words came) ≤ 99
unfolding came_words
length_came (Opened line) =
    let a = length_at_line line in
    simp length-append (omega arith)
length_came (Set desk line settled) =
    let a = at_most_20 desk in
    let b = length_at_line line in
    let d = length_at_line settled in
    simp length-append (omega arith)

pub length_came_text : (i : Inputs) (k : ℕ) (came : Came) → 1 ≤ k → k ≤ 15 → length (came_text i k came) ≤ 181
unfolding came_text
length_came_text i k came p q =
    let a = length_field i k p q in
    let b = length_came came in
    simp length-append (omega arith)

pub length_became : (became : Became) → length (became_words became) ≤ 79
unfolding became_words
length_became (TakenBack committed back) =
    let a = length_at_line committed in
    let b = length_at_line back in
    simp length-append (omega arith)
length_became (Cancelled line) =
    let a = length_at_line line in
    simp length-append (omega arith)
length_became Never = omega arith

pub length_balked : (balked : Option ℕ) → length (balked_words balked) ≤ 38
unfolding balked_words
length_balked None = omega arith
length_balked (Some line) =
    let a = length_at_line line in
    simp length-append (omega arith)
