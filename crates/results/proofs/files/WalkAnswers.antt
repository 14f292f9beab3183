-- Which month files earn refusal 9 and which 10, and at which place, both ways: 'each refusal names
-- the only inputs that earn it'. With `month_file_good` these are all the answers there are
-- (`file_answers`). The walk is gone through record by record. Assumes nothing.
use Rattle.std.proofs.Common.{Err, ◌≡◌, refl, sym, ap, ◌∙◌, subst, Bool, true, false, cond, List, [], ◌∷◌, ℕ, ◌+◌, ◌*◌, ◌/◌, ◌%◌, ◌≤◌, ◌<◌, arith, leb, length, take, length-take-le, get_or-take}
use native.Mathlib.Decide.{dec_le, ℕ_discrete}
use Rattle.base.specs.declared.refusal.Refusal.TheVariants.{Ended, Marker}
use Rattle.base.specs.Refusal.{Verdict}
use Rattle.base.specs.Refusal.{verdict_report}
use Rattle.base.specs.Words.{word_of, word_at}
use Rattle.base.specs.MonthFile.{month_file_size, sizes, Four, layout, is_right, walk, month_file_check, Marked, WellMarked}
use Rattle.base.proofs.verdicts.Refusals.{refused_not_accepted}
use Rattle.base.proofs.layout.Walks.{Fours, fours, no_open, bad_open, no_close, bad_close, passed}
use Rattle.results.specs.AcceptedFiles.{with_markers, RightSoFar, EndsAt, FirstWrong, opening, closing, beyond, WrongMarker, FileAnswer, taken, ended, wrong}
use Rattle.results.proofs.files.Marks.{done}

-- refusals that are the same have the same place, and 9 is not 10
place : {v w : Verdict} → v ≡ w → (verdict_report v).1 ≡ (verdict_report w).1
place e = ap (λ (v : Verdict). (verdict_report v).1) e

ended_marker : {A : Type 0} (p q : ℕ) → (let v : Verdict = Err (Ended p) in v ≡ Err (Marker q)) → A
ended_marker p q e = let x : ◌≡◌ {A = ℕ} 9 10 = ap (λ (v : Verdict). (verdict_report v).0) e in absurd (omega arith)

-- ---- '10 at a wrong marker': the first one, where its four bytes are there

not_before : (s : List ℕ) (at : ℕ) (ns : List ℕ) (p : ℕ) → FirstWrong s at ns p → at ≤ p
not_before s at [] p w = elim w [ ]
not_before s at (n ∷ ns) p (opening d) = omega arith
not_before s at (n ∷ ns) p (closing o d) = omega arith
not_before s at (n ∷ ns) p (beyond o c r) = let h = not_before s (at + n + 8) ns p r in omega arith

wrong_walk :
    (s : List ℕ) (at : ℕ) (ns : List ℕ) (p : ℕ) → Fours ns → at % 4 ≡ 0 → FirstWrong s at ns p → p + 4 ≤ length s →
    walk s at (layout ns) ≡ Err (Marker p)
wrong_walk s at [] p f m w l = elim w [ ]
wrong_walk s at (n ∷ ns) p f m (opening d) l = bad_open s at n ns m f.0 (omega arith) l d
wrong_walk s at (n ∷ ns) p f m (closing o d) l = bad_close s at n ns m f.0 (omega arith) (omega arith) o (omega arith) d
wrong_walk s at (n ∷ ns) p f m (beyond o c r) l =
    let w = f.0 in
    let h = not_before s (at + n + 8) ns p r in
    passed s at n ns m w (omega arith) (omega arith) o (omega arith) c ∙ wrong_walk s (at + n + 8) ns p f.1 (omega arith) r l

wrong_met :
    (s : List ℕ) (at : ℕ) (ns : List ℕ) (p : ℕ) → Fours ns → at % 4 ≡ 0 → at ≤ length s → walk s at (layout ns) ≡ Err (Marker p) →
    WrongMarker s at ns p
wrong_met s at [] p f m h e = refused_not_accepted (sym e ∙ done s at)
wrong_met s at (n ∷ ns) p f m h e = let w = f.0 in elim (dec_le (at + 4) (length s)) [
  | no q ↦ ended_marker _ p (sym (no_open s at n ns m w h (omega arith)) ∙ e)
  | yes q ↦ elim (ℕ_discrete (word_at s at) n) [
    | no d ↦ let x : at ≡ p = place (sym (bad_open s at n ns m w h q d) ∙ e) in
        record { there = omega arith; first = subst (FirstWrong s at (n ∷ ns)) x (opening d) }
    | yes o ↦ elim (dec_le (at + n + 8) (length s)) [
      | no l ↦ ended_marker _ p (sym (no_close s at n ns m w h q o (omega arith)) ∙ e)
      | yes l ↦ elim (ℕ_discrete (word_at s (at + n + 4)) n) [
        | no d ↦ let x : at + n + 4 ≡ p = place (sym (bad_close s at n ns m w h q o l d) ∙ e) in
            record { there = omega arith; first = subst (FirstWrong s at (n ∷ ns)) x (closing o d) }
        | yes c ↦ let r = wrong_met s (at + n + 8) ns p f.1 (omega arith) l (sym (passed s at n ns m w h q o l c) ∙ e) in
            record { there = r.there; first = beyond o c r.first }
      ]
    ]
  ]
]

pub marker_refused : (s : List ℕ) (p : ℕ) → (month_file_check s ≡ Err (Marker p) → WrongMarker s 0 sizes p) × (WrongMarker s 0 sizes p → month_file_check s ≡ Err (Marker p))
unfolding month_file_check
marker_refused s p = (
  λ e. wrong_met s 0 sizes p fours refl (omega arith) e,
  λ w. wrong_walk s 0 sizes p fours refl w.first w.there,
)

-- ---- '9 if four bytes are not there': the file is short, and the markers that it has are right

-- past the end there is no marker
past : (s : List ℕ) (at : ℕ) (ns : List ℕ) → length s < at + 4 → RightSoFar s at ns
past s at [] h = tt
past s at (n ∷ ns) h = (λ l. absurd (omega arith), λ l. absurd (omega arith), past s (at + n + 8) ns (omega arith))

end_met :
    (s : List ℕ) (at : ℕ) (ns : List ℕ) (p : ℕ) → Fours ns → at % 4 ≡ 0 → at ≤ length s → walk s at (layout ns) ≡ Err (Ended p) →
    EndsAt s at ns p
end_met s at [] p f m h e = refused_not_accepted (sym e ∙ done s at)
end_met s at (n ∷ ns) p f m h e = let w = f.0 in elim (dec_le (at + 4) (length s)) [
  | no q ↦ let x : length s / 4 * 4 ≡ p = place (sym (no_open s at n ns m w h (omega arith)) ∙ e) in
      record { short = omega arith; place = sym x; right = past s at (n ∷ ns) (omega arith) }
  | yes q ↦ elim (ℕ_discrete (word_at s at) n) [
    | no d ↦ ended_marker p _ (sym e ∙ bad_open s at n ns m w h q d)
    | yes o ↦ elim (dec_le (at + n + 8) (length s)) [
      | no l ↦ let x : length s / 4 * 4 ≡ p = place (sym (no_close s at n ns m w h q o (omega arith)) ∙ e) in
          record { short = omega arith; place = sym x; right = (λ k. o, λ k. absurd (l k), past s (at + n + 8) ns (omega arith)) }
      | yes l ↦ elim (ℕ_discrete (word_at s (at + n + 4)) n) [
        | no d ↦ ended_marker p _ (sym e ∙ bad_close s at n ns m w h q o l d)
        | yes c ↦ let r = end_met s (at + n + 8) ns p f.1 (omega arith) l (sym (passed s at n ns m w h q o l c) ∙ e) in
            let k = r.short in
            record { short = omega arith; place = r.place; right = (λ k. o, λ k. c, r.right) }
      ]
    ]
  ]
]

end_walk :
    (s : List ℕ) (at : ℕ) (ns : List ℕ) → Fours ns → at % 4 ≡ 0 → at ≤ length s → length s < at + with_markers ns → RightSoFar s at ns →
    walk s at (layout ns) ≡ Err (Ended (length s / 4 * 4))
end_walk s at [] f m h l r = absurd (omega arith)
end_walk s at (n ∷ ns) f m h l r = let w = f.0 in elim (dec_le (at + 4) (length s)) [
  | no q ↦ no_open s at n ns m w h (omega arith)
  | yes q ↦ elim (dec_le (at + n + 8) (length s)) [
    | no k ↦ no_close s at n ns m w h q (r.0 q) (omega arith)
    | yes k ↦ passed s at n ns m w h q (r.0 q) k (r.1 k) ∙ end_walk s (at + n + 8) ns f.1 (omega arith) k (omega arith) r.2
  ]
]

pub ended_refused : (s : List ℕ) (p : ℕ) → (month_file_check s ≡ Err (Ended p) → EndsAt s 0 sizes p) × (EndsAt s 0 sizes p → month_file_check s ≡ Err (Ended p))
unfolding month_file_check
ended_refused s p = (
  λ e. end_met s 0 sizes p fours refl (omega arith) e,
  λ x. end_walk s 0 sizes fours refl (omega arith) x.short x.right ∙ ap (λ (n : ℕ). Err (Ended n)) (sym x.place),
)

-- ---- a good file cut short, as in the known points (a) and (b)

module _ (s : List ℕ) (n : ℕ) (l : n ≤ length s) where
  cut_length : length (take n s) ≡ n
  cut_length = length-take-le n s l

  cut_word : (at : ℕ) → at + 4 ≤ n → word_at (take n s) at ≡ word_at s at
  unfolding word_at
  cut_word at h =
      let b0 = get_or-take n s at 0 (omega arith) in
      let b1 = get_or-take n s (at + 1) 0 (omega arith) in
      let b2 = get_or-take n s (at + 2) 0 (omega arith) in
      let b3 = get_or-take n s (at + 3) 0 (omega arith) in
      λ i. word_of (b0 i) (b1 i) (b2 i) (b3 i)

  cut_right : (at : ℕ) (ns : List ℕ) → Marked s at ns → RightSoFar (take n s) at ns
  cut_right at [] k = tt
  cut_right at (x ∷ ns) k =
      let c = cut_length in
      (λ h. cut_word at (omega arith) ∙ k.0, λ h. cut_word (at + x + 4) (omega arith) ∙ k.1, cut_right (at + x + 8) ns k.2)

pub cut_anywhere : (s : List ℕ) (n : ℕ) → WellMarked s → n < month_file_size → month_file_check (take n s) ≡ Err (Ended (n / 4 * 4))
cut_anywhere s n w h =
    let l = w.whole in
    let c = cut_length s n (omega arith) in
    (ended_refused (take n s) (n / 4 * 4)).1
    (record { short = omega arith; place = ap (λ (y : ℕ). y / 4 * 4) (sym c); right = cut_right s n (omega arith) 0 sizes w.marks })

-- ---- there is no other answer

walk_answers : (s : List ℕ) (at : ℕ) (fs : List Four) → FileAnswer (walk s at fs)
unfolding walk
walk_answers s at [] = taken
walk_answers s at (f ∷ fs) = go (leb (at + 4) (length s)) (is_right s at f) (walk_answers s (at + 4) fs)
  where
    go : (a b : Bool) → FileAnswer (walk s (at + 4) fs) → FileAnswer (cond a (cond b (walk s (at + 4) fs) (Err (Marker at))) (Err (Ended at)))
    go true true r = r
    go true false r = wrong at
    go false b r = ended at

pub file_answers : (s : List ℕ) → FileAnswer (month_file_check s)
unfolding month_file_check
file_answers s = walk_answers s 0 (layout sizes)
