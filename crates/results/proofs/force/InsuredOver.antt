-- THE INSURER'S LINE of the exported functions: of every list of calls over lent words, each
-- accepted showing of the worksheet gave the figures of the inputs in force, which are the words'
-- inputs, and every change in force was committed and never cancelled. From the same of the
-- worksheet that the words hold (`all_calls`). Assumes nothing.
use Rattle.std.proofs.Common.{Ok, ℕ, List, ◌∷◌, ◌++◌, ◌≡◌, refl, sym, ap, subst, ◌∙◌, Float}
use mathlib.Core.List.{Memᴰ}
use Rattle.maps.specs.declared.inputs.Inputs.{Inputs}
use Rattle.worksheet.specs.declared.desks.Worksheet.{Worksheet}
use Rattle.worksheet.specs.declared.inputs.Edit.{Edit}
use Rattle.worksheet.specs.Desks.{set_of, fresh_sheet, open_of, opened_of}
use Rattle.worksheet.specs.Showing.{Source}
use Rattle.worksheet.specs.Journal.{Call, show, shown, Entry, run}
use Rattle.worksheet.specs.InForce.{changes_by, commits_in_force, in_force, taken_back, start_left, FiguresOf, NeverCancelled, Insured}
use Rattle.worksheet.proofs.drafts.Drafts.{at_rest}
use Rattle.results.proofs.force.Insured.{in_force_law, insurers_line_lent}
use Rattle.results.proofs.force.Lasting.{same_start}
use Rattle.results.proofs.force.Unbroken.{never_cancelled, insurers_sentence_lent}
use Rattle.jutetrowel.specs.Words.{worksheet_of, words_after}
use Rattle.jutetrowel.specs.Calls.{CallsSingles, entries_over, words_over}
use Rattle.jutetrowel.proofs.lists.Carried.{all_calls, open_read}

-- for all words that hold a worksheet whose desks are closed, any source of files, and every list
-- of calls by f32 numbers
module _
    (source : Source) (l : List ℕ) (rest : at_rest (worksheet_of l) ≡ worksheet_of l) (cs : List Call)
    (k : CallsSingles cs)
  where
    same : entries_over source cs l ≡ (run source cs (worksheet_of l)).entries
    same = (all_calls source cs l (worksheet_of l) refl k).0

    pub insurers_line_over_lent :
        (before later : List Entry) (lent figures : List Float) (count : ℕ) →
        entries_over source cs l
        ≡ before ++ (record { call = show 0 lent; answer = shown (Ok count) figures } ∷ later) →
        FiguresOf source (in_force (worksheet_of l) before) count figures
    insurers_line_over_lent before later lent figures count h =
        insurers_line_lent source (worksheet_of l) rest cs before later lent figures count (sym same ∙ h)

    -- the insurer's sentence whole
    pub insurers_sentence_over :
        (before later : List Entry) (lent figures : List Float) (count : ℕ) →
        entries_over source cs l
        ≡ before ++ (record { call = show 0 lent; answer = shown (Ok count) figures } ∷ later) →
        Insured source (start_left (worksheet_of l) before) before count figures
    insurers_sentence_over before later lent figures count h =
        insurers_sentence_lent source (worksheet_of l) rest cs before later lent figures count (sym same ∙ h)

    -- the words' inputs are those in force
    pub in_force_over :
        (worksheet_of (words_over source cs l)).inputs ≡ in_force (worksheet_of l) (entries_over source cs l)
    in_force_over =
        ap (λ (w : Worksheet). w.inputs) (all_calls source cs l (worksheet_of l) refl k).1
        ∙ in_force_law source (worksheet_of l) rest cs
        ∙ ap (in_force (worksheet_of l)) (sym same)

    pub never_cancelled_over :
        (e : Edit) → Memᴰ e (changes_by (commits_in_force (worksheet_of l) (entries_over source cs l))) →
        NeverCancelled (entries_over source cs l) e
    never_cancelled_over e =
        subst
        (λ (x : List Entry). Memᴰ e (changes_by (commits_in_force (worksheet_of l) x)) → NeverCancelled x e)
        (sym same)
        (never_cancelled source (worksheet_of l) rest cs e)

-- the words that an accepted open writes hold a worksheet whose desks are closed
pub open_rest :
    (s lent : List ℕ) → (opened_of s).answer ≡ Ok tt →
    at_rest (worksheet_of (words_after (opened_of s) lent)) ≡ worksheet_of (words_after (opened_of s) lent)
unfolding opened_of open_of fresh_sheet
open_rest s lent h = ap at_rest (open_read s lent h) ∙ sym (open_read s lent h)

-- THE INSURER'S LINE for every source of files, all words that open, and every list of calls by f32
-- numbers
pub insurers_line_over :
    (source : Source) (s words : List ℕ) → (opened_of s).answer ≡ Ok tt → (cs : List Call) → CallsSingles cs →
    (before later : List Entry) (lent figures : List Float) (count : ℕ) →
    entries_over source cs (words_after (opened_of s) words)
    ≡ before ++ (record { call = show 0 lent; answer = shown (Ok count) figures } ∷ later) →
    FiguresOf source (in_force (worksheet_of (words_after (opened_of s) words)) before) count figures
insurers_line_over source s words h cs k =
    insurers_line_over_lent source (words_after (opened_of s) words) (open_rest s words h) cs k

-- THE INSURER'S SENTENCE of the same, from the inputs that the words open with
pub insurers_sentence_opened :
    (source : Source) (s words : List ℕ) → (opened_of s).answer ≡ Ok tt → (cs : List Call) → CallsSingles cs →
    (before later : List Entry) (lent figures : List Float) (count : ℕ) →
    entries_over source cs (words_after (opened_of s) words)
    ≡ before ++ (record { call = show 0 lent; answer = shown (Ok count) figures } ∷ later) →
    Insured source (opened_of s).sheet.inputs before count figures
unfolding opened_of open_of fresh_sheet set_of
insurers_sentence_opened source s words h cs k before later lent figures count e =
    subst (λ (i : Inputs). Insured source i before count figures)
    (ap (λ (w : Worksheet). start_left w before) (open_read s words h) ∙ same_start (taken_back before) (opened_of s).sheet.inputs)
    (insurers_sentence_over source (words_after (opened_of s) words) (open_rest s words h) cs k before later lent figures count e)
