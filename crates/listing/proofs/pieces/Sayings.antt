-- An answer in words: how long each part is at most, and that the words of an answer as it is handed
-- back are those of the step's answer, by the answer's case. Assumes nothing.
use Rattle.std.proofs.Common.{Err, Ok, Result, ℕ, ◌≤◌, Bool, true, false, cond, List, ◌++◌, ◌≡◌, refl, ap, ◌∙◌, arith, eqb, length, length-append, Float}
use Rattle.base.specs.declared.refusal.Refusal.{Refusal}
use Rattle.base.specs.Refusal.{Verdict}
use Rattle.maps.specs.declared.inputs.Inputs.{Inputs}
use Rattle.worksheet.specs.declared.desks.Worksheet.{Worksheet}
use Rattle.worksheet.specs.declared.journal.Answer.{Answer as Handed}
use Rattle.worksheet.specs.declared.journal.Answer.TheVariants.{Told, Shown as ShownTo}
use Rattle.worksheet.specs.declared.journal.Call.{Call}
use Rattle.worksheet.specs.declared.journal.Call.TheVariants.{Begin, Change, Commit, Cancel, TakeBack, Show}
use Rattle.worksheet.specs.declared.journal.Next.{Next}
use Rattle.worksheet.specs.Showing.{inputs_shown}
use Rattle.worksheet.specs.Journal.{Answer, told, shown, Step}
use Rattle.worksheet.specs.Calls.{handed, buffer_after, next_of}
use Rattle.wording.specs.Token.{ascii}
use Rattle.listing.specs.Survey.{refused_line}
use Rattle.listing.specs.Spoken.{line_mark, verdict_words, points_noun, points_words, shown_words, spoken_text, inputs_asked, desk_asked, handed_words}
use Rattle.listing.proofs.digits.Places.{at_most_20}
use Rattle.listing.proofs.pieces.Abreast.{length_columns}
use Rattle.listing.proofs.pieces.Reasons.{length_refused}

-- ---- how long

pub length_mark : (line : ℕ) → length (line_mark line) ≤ 27
unfolding line_mark
length_mark line =
    let a = at_most_20 line in
    simp length-append (omega arith)

length_refused_line : (why : Refusal) → length (refused_line why) ≤ 95
unfolding refused_line
length_refused_line why =
    let a = length_refused why in
    simp length-append (omega arith)

pub length_verdict : (v : Verdict) → length (verdict_words v) ≤ 95
unfolding verdict_words
length_verdict (Ok _) = omega arith
length_verdict (Err why) = length_refused_line why

noun_most : (one : Bool) → length (ascii (cond one " point\n" " points\n")) ≤ 8
noun_most true = omega arith
noun_most false = omega arith

pub length_noun : (count : ℕ) → length (ascii (points_noun count)) ≤ 8
length_noun count = noun_most (eqb count 1)

length_points : (i : Inputs) (count : ℕ) (xs : List Float) → length (points_words i count xs) ≤ 10036
unfolding points_words
length_points i count xs =
    let a = at_most_20 count in
    let b = length_noun count in
    let d = length_columns i count xs in
    simp length-append (omega arith)

length_shown : (i : Inputs) (s : Result ℕ Refusal) (xs : List Float) → length (shown_words i s xs) ≤ 10036
unfolding shown_words
length_shown i (Ok count) xs = length_points i count xs
length_shown i (Err why) xs = (let a = length_refused_line why in omega arith)

pub length_handed : (i : Inputs) (a : Handed) (xs : List Float) → length (handed_words i a xs) ≤ 10036
unfolding handed_words
length_handed i (Told v) xs = (let a = length_verdict v in omega arith)
length_handed i (ShownTo s) xs = length_shown i s xs

-- ---- the inputs shown

pub asked : (call : Call) (w : Worksheet) → inputs_shown (desk_asked call) w ≡ inputs_asked call w
unfolding inputs_asked inputs_shown
asked (Show n) w = refl
asked (Begin n) w = refl
asked (Change n e) w = refl
asked (Commit n) w = refl
asked (Cancel n) w = refl
asked TakeBack w = refl

-- ---- as it is handed back

same_words : (line : ℕ) (i : Inputs) (a : Answer) (lent : List Float) → line_mark line ++ handed_words i (handed a) (buffer_after a lent) ≡ spoken_text line i a
unfolding handed_words spoken_text
same_words line i (told v) lent = refl
same_words line i (shown s after) lent = refl

pub spoken_as :
    (line : ℕ) (s : Step) (lent : List Float) {i j : Inputs} {r : Next} {figures : List Float} {text : List ℕ} →
    i ≡ j → r ≡ next_of s → figures ≡ buffer_after s.answer lent → text ≡ line_mark line ++ handed_words i r.answer figures →
    (r.sheet ≡ s.sheet) × (text ≡ spoken_text line j s.answer)
unfolding next_of
spoken_as line s lent {j} e p q t = (
  ap (λ (n : Next). n.sheet) p,
  t ∙ (λ x. line_mark line ++ handed_words (e x) (p x).answer (q x)) ∙ same_words line j s.answer lent,
)
