-- Figures into a buffer that has not their number are refused, and a refused showing leaves the buffer.
-- Assumes nothing.
use Rattle.std.proofs.Common.{◌≡◌, ℕ, Bool, List, length, refl, sym, ap, arith, ne_eqb, Err, Ok, Float}
use Rattle.base.specs.declared.refusal.Refusal.{Refusal}
use Rattle.base.specs.declared.refusal.Refusal.TheVariants.{Figures}
use Rattle.base.specs.Refusal.{Verdict, refuse_unless, ◌then◌, written_over}
use Rattle.base.specs.Files.{files_check}
use Rattle.maps.specs.declared.inputs.Inputs.{Inputs}
use Rattle.maps.specs.Figures.{sheet_path, figures_of, points_or}
use Rattle.worksheet.specs.declared.desks.Worksheet.{Worksheet}
use Rattle.worksheet.specs.Showing.{Files, Source, inputs_shown, buffer_check, drawn_check, drawn_of, drawn_buffer, show_check, show_of, show_buffer}

-- an answer and a buffer, as the contracts of showings name them
abbrev pub Both : Type 0 → Type 0 → Type 0
Both a b = record { answer : a; buffer : b }

-- the buffer has not 151 numbers
pub drawn_unfit : (s : Files) (i : Inputs) (lent : List Float) → (length lent ≡ 151 → ⊥)
    → Both (Err Figures ≡ drawn_of s i lent) (lent ≡ drawn_buffer s i lent)
unfolding drawn_of drawn_buffer drawn_check buffer_check
drawn_unfit s i lent h =
    let e = sym (ne_eqb (length lent) 151 h) in
    let v : Bool → Verdict = λ (b : Bool). refuse_unless b Figures then s.verdict then files_check s.f2 s.file in
    record {
      answer = ap (λ (b : Bool). points_or (v b) (sheet_path i).count) e;
      buffer = ap (λ (b : Bool). written_over (v b) (figures_of s.f2 s.file i) lent) e;
    }

-- A REFUSED SHOWING LEAVES THE BUFFER
pub refused_buffer : (source : Source) (n : ℕ) (lent : List Float) (w : Worksheet) (why : Refusal) → show_of source n lent w ≡ Err why → show_buffer source n lent w ≡ lent
unfolding show_of show_buffer
refused_buffer source n lent w why h = go (show_check source n (length lent) w) h
  where
    i : Inputs
    i = inputs_shown n w

    go : (v : Verdict) → points_or v (sheet_path i).count ≡ Err why
        → written_over v (figures_of (source i).f2 (source i).file i) lent ≡ lent
    go (Ok _) e = let z : ◌≡◌ {A = ℕ} 0 1 = cc in absurd (omega arith)
    go (Err other) e = refl
