-- The line that ends a journal: while none has, the sitting is as what was told says, and once one
-- has, nothing more is said. By the lines in their order. Assumes nothing.
use Rattle.std.proofs.Common.{Err, Ok, ℕ, zero, suc, ◌+◌, ◌<◌, List, [], ◌∷◌, ◌++◌, append-nil, append_assoc, ◌⊎◌, inl, inr, ◌≡◌, refl, sym, ap, subst, ◌∙◌, arith, length, take, get_or}
use Rattle.base.specs.Refusal.{Verdict}
use Rattle.worksheet.specs.declared.desks.Worksheet.{Worksheet}
use Rattle.worksheet.specs.Desks.{open_of}
use Rattle.worksheet.specs.Showing.{Source}
use Rattle.wording.specs.declared.line.Line.{Line}
use Rattle.wording.specs.declared.line.Line.TheVariants as line
use Rattle.wording.specs.declared.written.WrittenInputs.{WrittenInputs}
use Rattle.wording.specs.Line.{line_in}
use Rattle.wording.specs.Written.{inputs_written}
use Rattle.listing.specs.Spoken.{spoken_verdict}
use Rattle.sitting.specs.declared.Sitting.{Sitting}
use Rattle.sitting.specs.declared.Sitting.TheVariants.{Waiting, Open, Ended}
use Rattle.sitting.specs.Sitting.{Hearing, sitting_after, opened_by, hear_open, hear_call, hear_wrong, hear_line, hearing}
use Rattle.auditing.specs.Gathered.{text_lines, Told, waiting, sits, ended, opened_told, telling, told_from, told_by}
use Rattle.results.specs.Heard.{IsWaiting, HasEnded, EndingText, no_call, open_again, not_open, open_refused, heard_from, heard_by, line_after, EndedAt}

-- the journal has ended, and nothing is said
abbrev Silent : Hearing → Type 0
Silent h = (h.text ≡ []) × HasEnded h.sitting

-- nothing has ended it
abbrev Going : Told → Sitting → Type 0
Going waiting s = IsWaiting s
Going (sits o at cs) s = (w : Worksheet) × (s ≡ Open w)
Going ended s = ⊥

-- line n ends it
record Ends (n : ℕ) (t : Told) (l : Line) (h : Hearing) : Type 0 where
  told : telling n t l ≡ ended
  sitting : HasEnded h.sitting
  text : EndingText n t l h.text

abbrev Next : ℕ → Told → Line → Hearing → Type 0
Next n t l h = Ends n t l h ⊎ Going (telling n t l) h.sitting

opened : (n : ℕ) (o : WrittenInputs) (v : Verdict) → (open_of (inputs_written o)).answer ≡ v → Next n waiting (line.Open o) (opened_by n o)
opened n o (Ok _) a =
    let w = (open_of (inputs_written o)).sheet in
    inr (subst (λ (v : Verdict). Going (opened_told n o v) (sitting_after v w)) (sym a) (w, refl))
opened n o (Err why) a =
    inl (record {
      told = ap (opened_told n o) a;
      sitting = (_, ap (λ (v : Verdict). sitting_after v (open_of (inputs_written o)).sheet) a);
      text = subst (λ (v : Verdict). EndingText n waiting (line.Open o) (spoken_verdict n v)) (sym a) (open_refused a);
    })

module _ (source : Source) where
  -- ---- after the end

  pub silent_line : (n : ℕ) (s : Sitting) (l : Line) → HasEnded s → Silent (hear_line source n s l)
  silent_line n s l e = subst (λ (x : Sitting). Silent (hear_line source n x l)) (sym e.1) (at_end e.0 l)
    where
      at_end : (w : Worksheet) (l : Line) → Silent (hear_line source n (Ended w) l)
      at_end w line.Blank = (refl, (w, refl))
      at_end w (line.Open o) = (refl, (w, refl))
      at_end w (line.Call c) = (refl, (w, refl))
      at_end w (line.Wrong f) = (refl, (w, refl))

  silent : (n : ℕ) (s : Sitting) (ls : List (List ℕ)) → HasEnded s → (heard_from source n s ls).text ≡ []
  unfolding heard_from hearing
  silent n s [] e = refl
  silent n s (l ∷ ls) e =
      let q = silent_line n s (line_in l) e in
      let next = (hearing source n s l).sitting in
      ap (λ (x : List ℕ). x ++ (heard_from source (suc n) next ls).text) q.0 ∙ silent (suc n) next ls q.1

  -- ---- before it

  next : (n : ℕ) (t : Told) (s : Sitting) (l : Line) → Going t s → Next n t l (hear_line source n s l)
  next n waiting s line.Blank g = inr g
  next n waiting s (line.Open o) g =
      subst (λ (x : Sitting). Next n waiting (line.Open o) (hear_open n o x)) (sym g.1)
      (opened n o (open_of (inputs_written o)).answer refl)
  next n waiting s (line.Call c) g =
      subst (λ (x : Sitting). Next n waiting (line.Call c) (hear_call source n c x)) (sym g.1)
      (inl (record { told = refl; sitting = (_, refl); text = not_open }))
  next n waiting s (line.Wrong f) g =
      subst (λ (x : Sitting). Next n waiting (line.Wrong f) (hear_wrong n f x)) (sym g.1)
      (inl (record { told = refl; sitting = (_, refl); text = no_call }))
  next n (sits o at cs) s line.Blank g = inr g
  next n (sits o at cs) s (line.Open p) g =
      subst (λ (x : Sitting). Next n (sits o at cs) (line.Open p) (hear_open n p x)) (sym g.1)
      (inl (record { told = refl; sitting = (_, refl); text = open_again }))
  next n (sits o at cs) s (line.Call c) g =
      subst (λ (x : Sitting). Next n (sits o at cs) (line.Call c) (hear_call source n c x)) (sym g.1) (inr (_, refl))
  next n (sits o at cs) s (line.Wrong f) g =
      subst (λ (x : Sitting). Next n (sits o at cs) (line.Wrong f) (hear_wrong n f x)) (sym g.1)
      (inl (record { told = refl; sitting = (_, refl); text = no_call }))
  next n ended s l g = absurd g

  -- ---- the line

  module _ (n : ℕ) (t : Told) (s : Sitting) (ls : List (List ℕ)) where
    abbrev told_of : ℕ → Told
    told_of m = told_from n t (take m ls)

    abbrev heard_of : ℕ → Hearing
    heard_of m = heard_from source n s (take m ls)

    -- the hearing of the line after m lines, as line `number`
    abbrev line_of : ℕ → ℕ → Hearing
    line_of number m = hearing source number (heard_of m).sitting (get_or ls m [])

    -- one of the first k of the lines from line n on ended the journal
    record Cut (k : ℕ) : Type 0 where
      before : ℕ
      number : ℕ
      counted : number ≡ n + before
      among : before < k
      there : before < length ls
      not_ended : told_of before ≡ ended → ⊥
      ended_by : told_of (suc before) ≡ ended
      said : (heard_of k).text ≡ (heard_of before).text ++ (line_of number before).text
      ending : EndingText number (told_of before) (line_in (get_or ls before [])) (line_of number before).text

  module _ (n : ℕ) (t : Told) (s : Sitting) (l : List ℕ) (ls : List (List ℕ)) (k : ℕ) where
    abbrev first : Hearing
    first = hearing source n s l

    cut_here : Going t s → Ends n t (line_in l) first → Cut n t s (l ∷ ls) (suc k)
    unfolding told_from heard_from
    cut_here g x =
        record {
          before = 0;
          number = n;
          counted = omega arith;
          among = omega arith;
          there = omega arith;
          not_ended = λ e. subst (λ (y : Told). Going y s) e g;
          ended_by = x.told;
          said =
              ap (λ (y : List ℕ). first.text ++ y) (silent (suc n) first.sitting (take k ls) x.sitting)
              ∙ append-nil first.text;
          ending = x.text;
        }

    cut_later : Cut (suc n) (telling n t (line_in l)) first.sitting ls k → Cut n t s (l ∷ ls) (suc k)
    unfolding told_from heard_from
    cut_later c =
        record {
          before = suc c.before;
          number = c.number;
          counted = omega (arith, c.counted);
          among = omega (arith, c.among);
          there = omega (arith, c.there);
          not_ended = c.not_ended;
          ended_by = c.ended_by;
          said =
              ap (λ (y : List ℕ). first.text ++ y) c.said ∙ sym (append_assoc first.text _ _);
          ending = c.ending;
        }

  cut :
      (n : ℕ) (t : Told) (s : Sitting) (ls : List (List ℕ)) (k : ℕ) → Going t s → told_from n t (take k ls) ≡ ended →
      Cut n t s ls k
  unfolding told_from hearing
  cut n t s ls zero g e = absurd (subst (λ (y : Told). Going y s) e g)
  cut n t s [] (suc k) g e = absurd (subst (λ (y : Told). Going y s) e g)
  cut n t s (l ∷ ls) (suc k) g e =
      either (λ h. cut (suc n) (telling n t (line_in l)) (hearing source n s l).sitting ls k h e)
      (next n t s (line_in l) g)
    where
      either :
          (Going (telling n t (line_in l)) (hearing source n s l).sitting →
          Cut (suc n) (telling n t (line_in l)) (hearing source n s l).sitting ls k) →
          Next n t (line_in l) (hearing source n s l) → Cut n t s (l ∷ ls) (suc k)
      either below (inl x) = cut_here n t s l ls k g x
      either below (inr h) = cut_later n t s l ls k (below h)

  -- THE LINE that ended a journal
  pub ended_at :
      (s : Sitting) (text : List ℕ) (k : ℕ) → IsWaiting s → told_by text k ≡ ended →
      HasEnded (heard_by source s text k).sitting → EndedAt source s text k
  unfolding told_by
  ended_at s text k g e sitting =
      let c = cut 1 waiting s (text_lines text) k g e in
      let m = c.before in
      let number : c.number ≡ suc m = omega (arith, c.counted) in
      let on = (heard_by source s text m).sitting in
      record {
        before = m;
        among = c.among;
        there = c.there;
        not_ended = c.not_ended;
        ended_by = c.ended_by;
        said =
            c.said
            ∙ ap (λ (x : ℕ). (heard_by source s text m).text ++ (hearing source x on (line_after text m)).text) number;
        ending =
            subst
            (λ (x : ℕ).
            EndingText x (told_by text m) (line_in (line_after text m)) (hearing source x on (line_after text m)).text)
            number c.ending;
        sitting = sitting;
      }
