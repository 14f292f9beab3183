-- A journal written anew is told as it was: each call is one line, since no word has a newline, and
-- that line reads as the call. By the calls in their order. Assumes nothing.
use Rattle.std.proofs.Common.{Ok, ℕ, suc, ◌≤◌, true, List, [], ◌∷◌, ◌++◌, map, append-nil, ◌≡◌, refl, sym, ap, ◌∙◌, arith, eqb, length, take, take_all}
use mathlib.Core.List.{Memᴰ}
use lib.ListN.{length-map}
use lib.Seq.{append_snoc}
use borrow.Author.Tests.{not-true}
use Rattle.base.specs.Refusal.{Verdict}
use Rattle.base.proofs.ladder.Ladders.{and_left, and_right}
use Rattle.base.proofs.verdicts.Picks.{cond_false}
use Rattle.worksheet.specs.Desks.{open_of}
use Rattle.wording.specs.declared.line.Line.{Line}
use Rattle.wording.specs.declared.line.Line.TheVariants.{Open}
use Rattle.wording.specs.declared.token.Token.{Token}
use Rattle.wording.specs.declared.written.WrittenInputs.{WrittenInputs}
use Rattle.wording.specs.declared.written.WrittenCall.{WrittenCall}
use Rattle.wording.specs.Written.{inputs_written}
use Rattle.listing.specs.Written.{open_text, call_text, line_text}
use Rattle.listing.proofs.reread.Bytes.{all}
use Rattle.auditing.specs.Gathered.{lines_from, text_lines, Numbered, waiting, sits, opened_told, telling, told_from, told_by}
use Rattle.results.specs.ReadBack.{GoodInputs, GoodCall, call_lines, numbered_from}
use Rattle.results.proofs.reading.Words.{on_line, AllRead, trailing, trailing_on_line}
use Rattle.results.proofs.reading.Texts.{call_tokens, open_tokens, call_text_law, open_text_law, call_read, open_read}
use Rattle.results.proofs.reading.Reread.{call_reread, open_reread}

-- ---- one line

-- w being its bytes so far
line_ends :
    (w l rest : List ℕ) → all on_line l ≡ true → lines_from w (l ++ (10 ∷ rest)) ≡ (w ++ l) ∷ lines_from [] rest
unfolding lines_from
line_ends w [] rest h = ap (λ (x : List ℕ). x ∷ lines_from [] rest) (sym (append-nil w))
line_ends w (c ∷ l) rest h =
    cond_false _ _ (not-true (eqb c 10) (and_left (on_line c) (all on_line l) h))
    ∙ line_ends (w ++ (c ∷ [])) l rest (and_right (on_line c) (all on_line l) h)
    ∙ ap (λ (x : List ℕ). x ∷ lines_from [] rest) (append_snoc w c l)

abbrev OneLine : List ℕ → Type 0
OneLine text =
    (text_lines (text ++ (10 ∷ [])) ≡ text ∷ [])
    × ((rest : List ℕ) → text_lines ((text ++ (10 ∷ [])) ++ rest) ≡ text ∷ text_lines rest)

one_line : (text : List ℕ) (l : List Token) → 32 ∷ text ≡ trailing l → AllRead l → OneLine text
unfolding lines_from
one_line text l e h =
    let on : all on_line text ≡ true = ap (all on_line) e ∙ trailing_on_line h in
    (line_ends [] text [] on, λ rest. ap text_lines (append_snoc text 10 rest) ∙ line_ends [] text rest on)

pub call_one_line : (c : WrittenCall) → GoodCall c → OneLine (call_text c)
call_one_line c g = one_line (call_text c) (call_tokens c) (call_text_law g) (call_read g)

pub open_one_line : (o : WrittenInputs) → GoodInputs o → OneLine (open_text o)
open_one_line o g = one_line (open_text o) (open_tokens o) (open_text_law g) (open_read g)

-- ---- the calls

abbrev pub EachGood : List WrittenCall → Type 0
EachGood cs = (c : WrittenCall) → Memᴰ c cs → GoodCall c

each_line : (cs : List WrittenCall) → EachGood cs → text_lines (call_lines cs) ≡ map call_text cs
unfolding call_lines lines_from
each_line [] h = refl
each_line (c ∷ cs) h =
    (call_one_line c (h c (Memᴰ.head refl))).1 (call_lines cs)
    ∙ ap (λ (ls : List (List ℕ)). call_text c ∷ ls) (each_line cs (λ x m. h x (Memᴰ.tail m)))

-- after those that were told
calls_told_law :
    (o : WrittenInputs) (at n : ℕ) (before : List Numbered) (cs : List WrittenCall) → EachGood cs →
    told_from n (sits o at before) (map call_text cs) ≡ sits o at (before ++ numbered_from n cs)
unfolding told_from numbered_from
calls_told_law o at n before [] h = ap (sits o at) (sym (append-nil before))
calls_told_law o at n before (c ∷ cs) h =
    let x : Numbered = record { call = c; line = n } in
    ap (λ (y : Line). told_from (suc n) (telling n (sits o at before) y) (map call_text cs))
    (call_reread c (h c (Memᴰ.head refl)))
    ∙ calls_told_law o at (suc n) (before ++ (x ∷ [])) cs (λ y m. h y (Memᴰ.tail m))
    ∙ ap (sits o at) (append_snoc before x (numbered_from (suc n) cs))

-- ---- THE JOURNAL

module _ (o : WrittenInputs) (cs : List WrittenCall) (first : GoodInputs o) (others : EachGood cs) where
  all_lines : text_lines (line_text (Open o) ++ call_lines cs) ≡ open_text o ∷ map call_text cs
  all_lines =
      (open_one_line o first).1 (call_lines cs)
      ∙ ap (λ (ls : List (List ℕ)). open_text o ∷ ls) (each_line cs others)

  pub journal_rewritten :
      (open_of (inputs_written o)).answer ≡ Ok tt →
      told_by (line_text (Open o) ++ call_lines cs) (suc (length cs)) ≡ sits o 1 (numbered_from 2 cs)
  unfolding told_by told_from
  journal_rewritten e =
      let texts = map call_text cs in
      let few : length texts ≤ length cs = omega (arith, length-map cs call_text) in
      ap (λ (ls : List (List ℕ)). told_from 1 waiting (take (suc (length cs)) ls)) all_lines
      ∙ ap (λ (ls : List (List ℕ)). told_from 1 waiting (open_text o ∷ ls)) (take_all (length cs) texts few)
      ∙ ap (λ (y : Line). told_from 2 (telling 1 waiting y) texts) (open_reread o first)
      ∙ ap (λ (v : Verdict). told_from 2 (opened_told 1 o v) texts) e
      ∙ calls_told_law o 1 2 [] cs others
