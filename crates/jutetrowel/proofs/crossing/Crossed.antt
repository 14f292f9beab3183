-- A call's answer as it crosses, and the words that it leaves: by the answer of the step made.
-- Assumes nothing.
use Rattle.std.proofs.Common.{Result, List, ◌≡◌, refl, sym, ap, ◌∙◌, ℕ, arith}
use Rattle.base.specs.declared.refusal.Refusal.{Refusal}
use Rattle.base.specs.Refusal.{written_over, Verdict}
use Rattle.worksheet.specs.declared.journal.Answer.TheVariants.{Told, Shown as IsShown}
use Rattle.worksheet.specs.declared.journal.Next.{Next}
use Rattle.worksheet.specs.Journal.{Answer, told, shown, Step}
use Rattle.worksheet.specs.Calls.{handed, next_of}
use Rattle.jutetrowel.specs.declared.answers.Answer.{Answer as Numbers}
use Rattle.jutetrowel.specs.Answers.{answer_of, shown_numbers}
use Rattle.jutetrowel.specs.Words.{sheet_words}
use Rattle.jutetrowel.specs.Calls.{answer_numbers, words_by}

-- an answer and the words, as the contracts of the calls name them
abbrev pub Both : Type 0 → Type 0 → Type 0
Both a b = record { answer : a; sheet : b }

told_same : {v u : Verdict} → Told v ≡ Told u → v ≡ u
told_same e = cc

shown_same : {s t : Result ℕ Refusal} → IsShown s ≡ IsShown t → s ≡ t
shown_same e = cc

shown_not_told : {A : Type 0} {s : Result ℕ Refusal} {v : Verdict} → IsShown s ≡ Told v → A
shown_not_told e = let z : ◌≡◌ {A = ℕ} 0 1 = cc in absurd (omega arith)

-- `next` is what was handed back of the step s on the words l
module _ (s : Step) (l : List ℕ) {next : Next} (e : next ≡ next_of s) where
  left : next.sheet ≡ s.sheet
  unfolding next_of
  left = ap (λ (n : Next). n.sheet) e

  -- a verdict was told, and settled
  pub told_crosses : {v : Verdict} {r : Numbers} {after : List ℕ} → next.answer ≡ Told v → r ≡ answer_of v →
      after ≡ written_over v (sheet_words next.sheet) l →
      Both (r ≡ answer_numbers s.answer) (after ≡ words_by s.answer s.sheet l)
  unfolding next_of
  told_crosses {v} {r} {after} t p q = go s.answer (sym (ap (λ (n : Next). n.answer) e) ∙ t)
    where
      go : (a : Answer) → handed a ≡ Told v → Both (r ≡ answer_numbers a) (after ≡ words_by a s.sheet l)
      go (told u) h =
          let same = sym (told_same h) in
          record { answer = p ∙ ap answer_of same; sheet = q ∙ (λ i. written_over (same i) (sheet_words (left i)) l) }
      go (shown x after) h = shown_not_told h

  -- a showing was handed back: the words stay
  pub shown_crosses : {x : Result ℕ Refusal} {r : Numbers} → next.answer ≡ IsShown x → r ≡ shown_numbers x →
      Both (r ≡ answer_numbers s.answer) (l ≡ words_by s.answer s.sheet l)
  unfolding next_of
  shown_crosses {x} {r} t p = go s.answer (sym (ap (λ (n : Next). n.answer) e) ∙ t)
    where
      go : (a : Answer) → handed a ≡ IsShown x → Both (r ≡ answer_numbers a) (l ≡ words_by a s.sheet l)
      go (told u) h = shown_not_told (sym h)
      go (shown y after) h = record { answer = p ∙ ap shown_numbers (sym (shown_same h)); sheet = refl }
