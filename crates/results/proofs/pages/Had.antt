-- An audited journal of two lines, an open and a showing: its lines are read by computation, and since
-- its inputs are in range the showing is answered as the files are found to be. Assumes nothing.
use Rattle.std.proofs.Common.{Err, Ok, ℕ, ◌≤◌, List, [], ◌∷◌, ◌≡◌, refl, sym, ap, subst, ◌∙◌, arith, lit≤, length, take, replicate, length-set}
use lib.ListN.{length-replicate}
use lib.Ieee.{le, round}
use Rattle.base.specs.declared.refusal.Refusal.{Refusal}
use Rattle.base.specs.Refusal.{Verdict}
use Rattle.base.specs.Files.{files_check}
use Rattle.base.specs.Single.{decimal, minus_decimal}
use Rattle.base.specs.Ranges.{month_check, hour_check, latitude_check, longitude_check, model_check}
use Rattle.maps.specs.declared.inputs.Inputs.{Inputs}
use Rattle.maps.specs.Figures.{sheet_path, figures_of}
use Rattle.worksheet.specs.Inputs.{sunspot_check, factor_check, flag_check, route_check, factors_check, pole_check, inputs_check}
use Rattle.worksheet.specs.Desks.{open_of}
use Rattle.worksheet.specs.Showing.{Source, pair}
use Rattle.worksheet.specs.Journal.{Answer, show, run}
use Rattle.wording.specs.declared.line.Line.{Line}
use Rattle.wording.specs.declared.line.Line.TheVariants.{Open, Call}
use Rattle.wording.specs.declared.written.WrittenCall.TheVariants.{Show}
use Rattle.wording.specs.Number.{all_digits, value_from, before_point, after_point, is_unsigned, unsigned_in, number_in, float_of}
use Rattle.wording.specs.Token.{ascii, uncommented, words_from, word_named, token_of, first_tokens, tokens_of, token_at}
use Rattle.wording.specs.Line.{whole_at, pair_fit, route_fit, route_at, route_end, head_fit, factors_start, pole_start, model_start, open_end, factors_fit, pole_fit, models_fit, open_fit, opening_factors, opening_pole, opening_model, opening_at, word_line, line_in}
use Rattle.wording.specs.Written.{route_written, factors_written, pole_written, inputs_written, call_written}
use Rattle.listing.specs.Turn.{blank}
use Rattle.auditing.specs.declared.gathering.Stage.TheVariants.{Waiting}
use Rattle.auditing.specs.declared.gathering.Gathered.{Gathered}
use Rattle.auditing.specs.Gathered.{lines_from, text_lines, first_line, Numbered, Told, waiting, sits, opened_told, telling, told_from, told_by, calls_told, sheet_opened, ReadsAt, GatheredAs, stage_of, opened_as, Gathering, gathering, with_call, GatheringAs, GoesOn}
use Rattle.auditing.proofs.journals.Turns.{goes_open, goes_call}
use Rattle.results.specs.AuditPage.{Audited, ShownLast, RefusedShowing, TwoLines}
use Rattle.results.proofs.hearings.Examples.{opening}
use Rattle.results.proofs.sheet.AlwaysShown.{first_showing, first_refused}

-- ---- the text, and what its lines read as

abbrev text : List ℕ
text = ascii "open month 6 sunspot 80 hour 12 from 62.47 6.15 to 64.13 -21.9\nshow\n"

abbrev open_line : List ℕ
open_line = ascii "open month 6 sunspot 80 hour 12 from 62.47 6.15 to 64.13 -21.9"

abbrev shows : Numbered
shows = record { call = Show 0; line = 2 }

two_lines : text_lines text ≡ open_line ∷ (ascii "show" ∷ [])
unfolding lines_from
two_lines = refl

open_read : line_in open_line ≡ Open opening
unfolding all_digits value_from before_point after_point is_unsigned unsigned_in number_in uncommented words_from word_named token_of first_tokens tokens_of token_at whole_at pair_fit route_fit route_at route_end head_fit factors_start pole_start model_start open_end factors_fit pole_fit models_fit open_fit opening_factors opening_pole opening_model opening_at word_line line_in
open_read = refl

show_read : line_in (ascii "show") ≡ Call (Show 0)
unfolding uncommented words_from word_named token_of first_tokens tokens_of token_at word_line line_in
show_read = refl

-- the open is accepted
opens : (open_of (inputs_written opening)).answer ≡ Ok tt
unfolding float_of route_written factors_written pole_written inputs_written sunspot_check factor_check flag_check route_check factors_check pole_check inputs_check month_check hour_check latitude_check longitude_check model_check open_of decimal minus_decimal round le
opens = refl

two_told : told_by text 2 ≡ sits opening 1 (shows ∷ [])
unfolding told_by told_from
two_told =
    let last : List (List ℕ) = ascii "show" ∷ [] in
    ap (λ (ls : List (List ℕ)). told_from 1 waiting (take 2 ls)) two_lines
    ∙ ap (λ (l : Line). told_from 2 (telling 1 waiting l) last) open_read
    ∙ ap (λ (v : Verdict). told_from 2 (opened_told 1 opening v) last) opens
    ∙ ap (λ (l : Line). telling 2 (sits opening 1 []) l) show_read

-- ---- where they begin

open_at : ReadsAt text 0 (Open opening)
unfolding first_line
open_at = record { within = lit≤ tt; said = open_read }

show_at : ReadsAt text 63 (Call (Show 0))
unfolding first_line
show_at = record { within = lit≤ tt; said = show_read }

-- ---- what is gathered in some buffers

module _ (source : Source) (marks numbers starts : List ℕ) where
  abbrev first : Gathering
  first = gathering (opened_as opening 1 0) marks numbers starts

  abbrev both : Gathering
  both = with_call source (Show 0) 2 63 first

  first_gathered : GatheringAs source text (sits opening 1 []) first
  unfolding GoesOn GatheredAs
  first_gathered =
      let none : Gathered = record { stage = Waiting; sheet = sheet_opened opening; count = 0; opened = 0; start = 0 } in
      subst (λ (v : Verdict). GatheringAs source text (opened_told 1 opening v) first) opens
      (goes_open source 1 0 opening none marks numbers starts refl refl text waiting open_at (refl, refl))

  both_gathered : GatheringAs source text (told_by text 2) both
  unfolding GoesOn opened_as
  both_gathered =
      subst (λ (t : Told). GatheringAs source text t both) (sym two_told)
      (goes_call source 2 63 (Show 0) first (ap stage_of opens) refl text (sits opening 1 []) show_at first_gathered)

-- ---- THE PAGE

module _ (f2 file : List ℕ) (room : ℕ) (some : 1 ≤ room) where
  abbrev buffer : List ℕ
  buffer = replicate room 0

  abbrev kept : Gathering
  kept = both (pair f2 file) buffer buffer buffer

  sizes : (length kept.marks ≡ room) × ((length kept.numbers ≡ room) × (length kept.starts ≡ room))
  unfolding with_call
  sizes =
      let e : length buffer ≡ room = length-replicate room 0 in
      (length-set buffer _ _ ∙ e, (length-set buffer _ _ ∙ e, length-set buffer _ _ ∙ e))

  abbrev audited : Audited
  audited =
      record {
        source = pair f2 file;
        text = text;
        lines = 2;
        opening = opening;
        opened_at = 1;
        calls = shows ∷ [];
        told = two_told;
        kept = kept.gathered;
        marks = kept.marks;
        numbers = kept.numbers;
        starts = kept.starts;
        gathered = both_gathered (pair f2 file) buffer buffer buffer;
        marks_room = omega (arith, sizes.0, some);
        numbers_room = omega (arith, sizes.1.0, some);
        starts_room = omega (arith, sizes.1.1, some);
      }

  abbrev two : TwoLines (pair f2 file) room
  two =
      record {
        audited = audited;
        over = refl;
        its_text = refl;
        marks_are = sizes.0;
        numbers_are = sizes.1.0;
        starts_are = sizes.1.1;
      }

  abbrev i : Inputs
  i = inputs_written opening

  blank_fits : length blank ≡ 151
  blank_fits = length-replicate 151 (decimal 0 1)

  pub page_had : files_check f2 file ≡ Ok tt → (two : TwoLines (pair f2 file) room) × ShownLast two.audited 2
  unfolding run calls_told call_written
  page_had good =
      let shown_there : ShownLast audited 2 =
      record {
        before = [];
        split = refl;
        points = (sheet_path i).count;
        figures = figures_of f2 file i;
        answered =
            ap (λ (x : Answer). record { call = show 0 blank; answer = x } ∷ [])
            (first_showing f2 file good i opens blank blank_fits);
      } in
      (two, shown_there)

  pub page_refused_had :
      (why : Refusal) → files_check f2 file ≡ Err why →
      (two : TwoLines (pair f2 file) room) × ((showing : RefusedShowing two.audited 2) × (showing.why ≡ why))
  unfolding run calls_told call_written
  page_refused_had why bad =
      let refused_there : RefusedShowing audited 2 =
      record {
        before = [];
        split = refl;
        why = why;
        buffer = blank;
        answered =
            ap (λ (x : Answer). record { call = show 0 blank; answer = x } ∷ [])
            (first_refused f2 file why bad i opens blank blank_fits);
      } in
      (two, (refused_there, refl))
