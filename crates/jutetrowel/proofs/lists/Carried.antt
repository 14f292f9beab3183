-- DEMAND 3 of the exported functions. A list of calls over lent words answers as the same list over
-- the worksheet that the words hold, and leaves words that hold what that leaves: each call keeps
-- the numbers f32 values, so that what it writes is read back. Assumes nothing.
use Rattle.std.proofs.Common.{Err, Ok, ℕ, Bool, true, false, cond, List, [], ◌∷◌, ◌++◌, ◌≡◌, refl, sym, ap, ◌∙◌, subst}
use Rattle.base.specs.Refusal.{written_over, Verdict}
use Rattle.maps.specs.Inputs.{Single, Singles}
use Rattle.maps.specs.declared.inputs.Inputs.{Inputs}
use Rattle.maps.proofs.sheet.Codec.{from_single}
use Rattle.worksheet.specs.declared.inputs.Edit.{Edit}
use Rattle.worksheet.specs.declared.inputs.Edit.TheVariants.{Sunspot, Hour, Path, Psc, Pole, Month, Model}
use Rattle.worksheet.specs.declared.desks.Worksheet.{Worksheet}
use Rattle.worksheet.specs.Inputs.{edited}
use Rattle.worksheet.specs.Desks.{outcome, begin_of, change_of, commit_of, cancel_of, take_back_of, fresh_sheet, open_of, opened_of}
use Rattle.worksheet.specs.Showing.{Source}
use Rattle.worksheet.specs.Journal.{Call, begin, commit, cancel, change, take_back, show, Entry, Run, Role, beginning, ending, settling, belonging, returning, showing, role_in, good, step, entry_of, run, begins, belongs, own, kept_for, shorter, calls_of, kept_of, short_run, Demand3}
use Rattle.worksheet.proofs.drafts.Drafts.{at_rest}
use Rattle.worksheet.proofs.drafts.Keeps.{step_keeps}
use Rattle.worksheet.proofs.lists.Rules.{demand_3_lent}
use Rattle.jutetrowel.specs.Words.{worksheet_of, sheet_words, words_after, SheetSingles}
use Rattle.jutetrowel.specs.Calls.{EditSingles, CallSingles, CallsSingles, words_left, entries_over, words_over, Demand3Over}
use Rattle.jutetrowel.proofs.crossing.Returned.{read_back, read_single}

-- ---- every call keeps the numbers f32 values

-- inputs by their parts that have numbers
assembled : (x : Inputs) → Single x.ssn → Single x.gmt →
    EditSingles (Path x.route) → EditSingles (Psc x.psc) → EditSingles (Pole x.pole) → Singles x
assembled x ssn gmt route psc pole =
    record {
      ssn = ssn;
      gmt = gmt;
      tlat = route.0;
      tlong = route.1;
      rlat = route.2;
      rlong = route.3;
      e = psc.0;
      f1 = psc.1;
      f2 = psc.2;
      es = psc.3;
      lat = pole.0;
      lon = pole.1;
    }

module _ (x : Inputs) (k : Singles x) where
  route_single : EditSingles (Path x.route)
  route_single = (k.tlat, k.tlong, k.rlat, k.rlong)

  psc_single : EditSingles (Psc x.psc)
  psc_single = (k.e, k.f1, k.f2, k.es)

  pole_single : EditSingles (Pole x.pole)
  pole_single = (k.lat, k.lon)

  edited_single : (e : Edit) → EditSingles e → Singles (edited e x)
  unfolding edited
  edited_single (Sunspot s) h = assembled _ h k.gmt route_single psc_single pole_single
  edited_single (Hour t) h = assembled _ k.ssn h route_single psc_single pole_single
  edited_single (Path p) h = assembled _ k.ssn k.gmt h psc_single pole_single
  edited_single (Psc p) h = assembled _ k.ssn k.gmt route_single h pole_single
  edited_single (Pole p) h = assembled _ k.ssn k.gmt route_single psc_single h
  edited_single (Month m) h = assembled _ k.ssn k.gmt route_single psc_single pole_single
  edited_single (Model m) h = assembled _ k.ssn k.gmt route_single psc_single pole_single

module _ (source : Source) where
  left_single : (c : Call) (l : List ℕ) → CallSingles c → SheetSingles (step source c (worksheet_of l)).sheet
  left_single c l k =
      step_keeps Singles source c (worksheet_of l)
      (λ n e same a i h. edited_single i h e (subst CallSingles same k)) (read_single l)

-- ---- what a call writes is read back, and what it leaves alone holds what it held

settled : (v : Verdict) (after : Worksheet) (l : List ℕ) → SheetSingles (outcome v after (worksheet_of l)).sheet →
    worksheet_of (words_after (outcome v after (worksheet_of l)) l) ≡ (outcome v after (worksheet_of l)).sheet
unfolding outcome
settled (Ok _) after l h = read_back after h
settled (Err why) after l h = refl

module _ (source : Source) where
  pub one_call : (c : Call) (l : List ℕ) → CallSingles c →
      worksheet_of (words_left source c l) ≡ (step source c (worksheet_of l)).sheet
  unfolding words_left step begin_of change_of commit_of cancel_of take_back_of
  one_call (begin n) l k = settled _ _ l (left_single source (begin n) l k)
  one_call (change n e) l k = settled _ _ l (left_single source (change n e) l k)
  one_call (commit n) l k = settled _ _ l (left_single source (commit n) l k)
  one_call (cancel n) l k = settled _ _ l (left_single source (cancel n) l k)
  one_call take_back l k = settled _ _ l (left_single source take_back l k)
  one_call (show n lent) l k = refl

  -- the whole list, from any words that hold w
  pub all_calls : (cs : List Call) (l : List ℕ) (w : Worksheet) → worksheet_of l ≡ w → CallsSingles cs →
      (entries_over source cs l ≡ (run source cs w).entries)
      × (worksheet_of (words_over source cs l) ≡ (run source cs w).sheet)
  unfolding entries_over words_over run
  all_calls [] l w e k = (refl, e)
  all_calls (c ∷ cs) l w e k =
      let s = one_call c l k.0 ∙ ap (λ (x : Worksheet). (step source c x).sheet) e in
      let r = all_calls cs (words_left source c l) (step source c w).sheet s k.1 in
      ((λ t. entry_of source c (e t) ∷ r.0 t), r.1)

-- ---- the calls of the shorter list are calls of the full one

abbrev EntriesSingles : List Entry → Type 0
EntriesSingles [] = Unit
EntriesSingles (x ∷ l) = CallSingles x.call × EntriesSingles l

appended_single : (a b : List Entry) → EntriesSingles a → EntriesSingles b → EntriesSingles (a ++ b)
appended_single [] b h k = k
appended_single (x ∷ a) b h k = (h.0, appended_single a b h.1 k)

if_single : (b : Bool) (x y : List Entry) → EntriesSingles x → EntriesSingles y → EntriesSingles (cond b x y)
if_single true x y h k = h
if_single false x y h k = k

own_single : (n : ℕ) (past : List Entry) → EntriesSingles past → EntriesSingles (own n past)
unfolding own
own_single n [] h = tt
own_single n (x ∷ past) h =
    let o = own_single n past h.1 in
    let l = appended_single (own n past) (x ∷ []) o (h.0, tt) in
    if_single (begins n x) (x ∷ []) (cond (belongs n x) (own n past ++ (x ∷ [])) (own n past)) (h.0, tt)
    (if_single (belongs n x) (own n past ++ (x ∷ [])) (own n past) l o)

kept_single : (past : List Entry) (r : Role) (x : Entry) → EntriesSingles past → CallSingles x.call →
    EntriesSingles (kept_for past r x)
unfolding kept_for
kept_single past (beginning n) x h k = tt
kept_single past (ending n) x h k = tt
kept_single past (belonging n even es) x h k = tt
kept_single past (settling n) x h k =
    if_single (good x) (own n past ++ (x ∷ [])) []
    (appended_single (own n past) (x ∷ []) (own_single n past h) (k, tt)) tt
kept_single past returning x h k = if_single (good x) (x ∷ []) [] (k, tt) tt
kept_single past showing x h k = (k, tt)

shorter_single : (past later : List Entry) → EntriesSingles past → EntriesSingles later →
    EntriesSingles (shorter past later)
unfolding shorter
shorter_single past [] h k = tt
shorter_single past (x ∷ later) h k =
    appended_single (kept_for past (role_in x) x) (shorter (x ∷ past) later) (kept_single past (role_in x) x h k.0)
    (shorter_single (x ∷ past) later (k.0, h) k.1)

calls_single : (l : List Entry) → EntriesSingles l → CallsSingles (calls_of l)
unfolding calls_of
calls_single [] h = tt
calls_single (x ∷ l) h = (h.0, calls_single l h.1)

-- ---- demand 3 over words

module _ (source : Source) where
  entries_single : (cs : List Call) (l : List ℕ) → CallsSingles cs → EntriesSingles (entries_over source cs l)
  unfolding entries_over
  entries_single [] l k = tt
  entries_single (c ∷ cs) l k = (k.0, entries_single cs (words_left source c l) k.1)

  -- from any words that hold a worksheet of which demand 3 is known
  over_words : (cs : List Call) (l : List ℕ) (w : Worksheet) → worksheet_of l ≡ w → CallsSingles cs →
      Demand3 source w cs → Demand3Over source l cs
  unfolding kept_of short_run
  over_words cs l w e k d =
      let a = all_calls source cs l w e k in
      let full = entries_over source cs l in
      let same : shorter [] full ≡ kept_of source w cs = ap (shorter []) a.0 in
      let short = calls_of (shorter [] full) in
      let singles = calls_single (shorter [] full) (shorter_single [] full tt (entries_single cs l k)) in
      let b = all_calls source short l w e singles in
      let r : run source short w ≡ short_run source w cs = ap (λ (x : List Entry). run source (calls_of x) w) same in
      let left : worksheet_of (words_over source short l) ≡ (short_run source w cs).sheet =
      b.1 ∙ ap (λ (x : Run). x.sheet) r in
      record {
        answers = b.0 ∙ ap (λ (x : Run). x.entries) r ∙ d.answers ∙ sym same;
        inputs = (λ t. (left t).inputs) ∙ d.inputs ∙ sym (λ t. (a.1 t).inputs);
        earlier = (λ t. (left t).earlier) ∙ d.earlier ∙ sym (λ t. (a.1 t).earlier);
      }

  -- DEMAND 3 over any source of files: for all words that hold a worksheet whose desks are closed,
  -- and every list of calls by f32 numbers
  pub demand_3_over_lent : (l : List ℕ) (w : Worksheet) → worksheet_of l ≡ w → at_rest w ≡ w →
      (cs : List Call) → CallsSingles cs → Demand3Over source l cs
  demand_3_over_lent l w e h cs k = over_words cs l w e k (demand_3_lent source w h cs)

-- the words that an accepted open writes hold its worksheet
pub open_read : (s lent : List ℕ) → (opened_of s).answer ≡ Ok tt →
    worksheet_of (words_after (opened_of s) lent) ≡ (opened_of s).sheet
unfolding opened_of open_of fresh_sheet
open_read s lent h =
    let w = (opened_of s).sheet in
    ap (λ (v : Verdict). worksheet_of (written_over v (sheet_words w) lent)) h
    ∙ read_back w (record { inputs = from_single _; earlier = tt; d1 = tt; d2 = tt; d3 = tt; d4 = tt })

-- DEMAND 3: for every source of files, all words that open, and every list of calls by f32 numbers
pub demand_3_over :
    (source : Source) (s lent : List ℕ) → (opened_of s).answer ≡ Ok tt → (cs : List Call) → CallsSingles cs →
    Demand3Over source (words_after (opened_of s) lent) cs
unfolding opened_of open_of fresh_sheet
demand_3_over source s lent h cs k =
    demand_3_over_lent source (words_after (opened_of s) lent) (opened_of s).sheet (open_read s lent h) refl cs k
