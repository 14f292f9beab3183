-- What the library hands back: the number 0 exactly where a call was accepted; and the insurer's
-- sentence of a showing that hands back 0, as the last call of a list. Assumes nothing.
use Rattle.std.proofs.Common.{Err, Ok, Result, List, [], ◌∷◌, ◌++◌, ◌≡◌, refl, sym, ap, ◌∙◌, ℕ, arith, Float}
use Rattle.base.specs.declared.refusal.Refusal.{Refusal}
use Rattle.base.specs.Refusal.{Verdict}
use Rattle.base.proofs.verdicts.Refusals.{accepted_by_number}
use Rattle.worksheet.specs.Desks.{opened_of}
use Rattle.worksheet.specs.Showing.{Source, show_of, show_buffer}
use Rattle.worksheet.specs.Journal.{Call, show, shown, Entry, step, entry_of}
use Rattle.worksheet.specs.InForce.{Insured}
use Rattle.jutetrowel.specs.declared.answers.Showing.{Showing}
use Rattle.jutetrowel.specs.Answers.{answer_of, showing_of}
use Rattle.jutetrowel.specs.Words.{worksheet_of, words_after}
use Rattle.jutetrowel.specs.Calls.{CallSingles, CallsSingles, Shows, words_left, entries_over, words_over}
use Rattle.results.proofs.force.InsuredOver.{insurers_sentence_opened}

pub accepted_number : (v : Verdict) → (answer_of v).number ≡ 0 → v ≡ Ok tt
unfolding answer_of
accepted_number v e = accepted_by_number v e

pub shown_number : (x : Result ℕ Refusal) → (showing_of x).number ≡ 0 → x ≡ Ok (showing_of x).points
unfolding showing_of
shown_number (Ok count) e = refl
shown_number (Err why) e =
    let p : Err why ≡ Ok tt = accepted_by_number (Err why) e in
    let z : ◌≡◌ {A = ℕ} 0 1 = cc in
    absurd (omega arith)

-- ---- one call more

entries_after : (source : Source) (cs : List Call) (c : Call) (l : List ℕ) →
    entries_over source (cs ++ (c ∷ [])) l
    ≡ entries_over source cs l ++ (entry_of source c (worksheet_of (words_over source cs l)) ∷ [])
unfolding entries_over words_over
entries_after source [] c l = refl
entries_after source (d ∷ cs) c l =
    ap (λ (k : List Entry). entry_of source d (worksheet_of l) ∷ k) (entries_after source cs c (words_left source d l))

singles_after : (cs : List Call) (c : Call) → CallsSingles cs → CallSingles c → CallsSingles (cs ++ (c ∷ []))
singles_after [] c h k = (k, tt)
singles_after (d ∷ cs) c h k = (h.0, singles_after cs c h.1 k)

-- ---- the insurer's sentence

pub insurers_sentence_handed :
    (source : Source) (s words : List ℕ) → (opened_of s).answer ≡ Ok tt → (cs : List Call) → CallsSingles cs →
    (lent figures : List Float) (r : Showing) → let l = words_after (opened_of s) words in
    Shows (step source (show 0 lent) (worksheet_of (words_over source cs l))).answer r figures →
    r.number ≡ 0 →
    Insured source (opened_of s).sheet.inputs (entries_over source cs l) r.points figures
unfolding step
insurers_sentence_handed source s words h cs k lent figures r given zero =
    let l = words_after (opened_of s) words in
    let w = worksheet_of (words_over source cs l) in
    let number : (showing_of (show_of source 0 lent w)).number ≡ 0 =
    ap (λ (x : Showing). x.number) (sym given.0) ∙ zero in
    let points : show_of source 0 lent w ≡ Ok r.points =
    shown_number (show_of source 0 lent w) number ∙ ap (λ (x : Showing). Ok x.points) (sym given.0) in
    let whole : show_buffer source 0 lent w ≡ figures = sym given.1 in
    let x : Entry = record { call = show 0 lent; answer = shown (Ok r.points) figures } in
    let last : entry_of source (show 0 lent) w ≡ x =
    λ t. record { call = show 0 lent; answer = shown (points t) (whole t) } in
    insurers_sentence_opened source s words h (cs ++ (show 0 lent ∷ [])) (singles_after cs (show 0 lent) k tt)
    (entries_over source cs l) [] lent figures r.points
    (entries_after source cs (show 0 lent) l ∙ ap (λ (y : Entry). entries_over source cs l ++ (y ∷ [])) last)
