-- `none` stands in the place of the drafts' lines exactly where every draft that was begun stands: no place has
-- a line, each is an entry's, which begins a draft or begins none, and the line of a draft is empty only where
-- it stands. Assumes nothing.
use Rattle.std.proofs.Common.{Ok, Option, ℕ, zero, suc, ◌<◌, ◌≤◌, Bool, true, false, ◌&&◌, List, [], ◌∷◌, ◌++◌, ◌↔◌, ◌⊎◌, inl, inr, ◌≡◌, refl, sym, ap, ◌∙◌, arith, eqb, length, get_or, take, drop, length-take-le, eq-eqb}
use mathlib.Core.Bool.{and-false, false≢true}
use mathlib.Core.List.{cons≢nil}
use lib.Seq.{split_at}
use Rattle.worksheet.specs.Journal.{Role, beginning, ending, settling, belonging, returning, showing, take_back, told, Entry, role_in, good, is_begin, begins}
use Rattle.listing.specs.Account.{draft_line}
use Rattle.auditing.specs.declared.marks.Fate.{Fate}
use Rattle.auditing.specs.declared.marks.Fate.TheVariants.{Stands, TakenBack, Cancelled, Never}
use Rattle.auditing.specs.Provenance.{fate_of}
use Rattle.auditing.specs.Accounts.{fate_line, draft_account}
use Rattle.auditing.specs.Page.{drafts_text, no_drafts}
use Rattle.auditing.proofs.pages.Parts.{lines_none, lines_next, some_draft, no_draft}
use Rattle.results.specs.AuditPage.{Audited, entries_in}
use Rattle.results.proofs.pages.Held.{counted, place_below}
use Rattle.results.proofs.pages.Drafts.{page_drafts, page_no_draft}

-- ---- there is no line exactly where no place has one

module _ (marks numbers : List ℕ) (count : ℕ) where
  each_none : no_drafts marks numbers count ≡ true → (p : ℕ) → p < count → draft_account marks numbers count p ≡ []
  each_none h p q = go (draft_account marks numbers count p) refl
    where
      go : (l : List ℕ) → draft_account marks numbers count p ≡ l → l ≡ []
      go [] e = refl
      go (x ∷ l) e = absurd (false≢true (some_draft marks numbers count p q (omega (arith, ap length e)) ∙ h))

  all_none :
      ((p : ℕ) → p < count → draft_account marks numbers count p ≡ []) → no_drafts marks numbers count ≡ true
  all_none each = sym (no_draft marks numbers count count (omega arith) (omega arith) (first count (omega arith)))
    where
      first : (k : ℕ) → k ≤ count → length (drafts_text marks numbers count k) ≡ 0
      first zero h = lines_none marks numbers count
      first (suc k) h =
          omega (arith, lines_next marks numbers count k, first k (omega arith), ap length (each k (omega arith)))

-- ---- a draft without a line stands

no_line_stands :
    (numbers : List ℕ) (n begun : ℕ) (b : Option ℕ) (f : Fate) → fate_line numbers n begun b f ≡ [] →
    (s : ℕ) × (f ≡ Stands s)
unfolding draft_line
no_line_stands numbers n begun b (Stands s) h = (s, refl)
no_line_stands numbers n begun b (TakenBack s t) h = absurd (cons≢nil h)
no_line_stands numbers n begun b (Cancelled s) h = absurd (cons≢nil h)
no_line_stands numbers n begun b Never h = absurd (cons≢nil h)

-- ---- a call begins a draft of some desk, or of none

begun_or_not : (r : Role) (b : Bool) → ((n : ℕ) × (is_begin n r b ≡ true)) ⊎ ((n : ℕ) → is_begin n r b ≡ false)
begun_or_not (beginning m) true = inl (m, ap (λ (t : Bool). t && true) (eq-eqb m m refl))
begun_or_not (beginning m) false = inr (λ n. and-false (eqb m n))
begun_or_not (ending m) b = inr (λ n. refl)
begun_or_not (settling m) b = inr (λ n. refl)
begun_or_not (belonging m even es) b = inr (λ n. refl)
begun_or_not returning b = inr (λ n. refl)
begun_or_not showing b = inr (λ n. refl)

-- ---- NONE

module _ (a : Audited) where
  abbrev AllStand : Type 0
  AllStand =
      (n : ℕ) (front later : List Entry) (b : Entry) → entries_in a ≡ front ++ (b ∷ later) → begins n b ≡ true →
      (s : ℕ) × (fate_of n (suc (length front)) later ≡ Stands s)

  abbrev line : ℕ → List ℕ
  line p = draft_account a.marks a.numbers a.kept.count p

  -- at the place of an entry
  none_at :
      AllStand → (front later : List Entry) (x : Entry) → entries_in a ≡ front ++ (x ∷ later) →
      line (length front) ≡ []
  none_at stand front later x split = go (begun_or_not (role_in x) (good x))
    where
      go : ((n : ℕ) × (begins n x ≡ true)) ⊎ ((n : ℕ) → begins n x ≡ false) → line (length front) ≡ []
      go (inl (n, begun)) =
          page_drafts a front later x split n begun ∙ ap (fate_line _ _ _ _) (stand n front later x split begun).1
      go (inr not-begun) = page_no_draft a front later x split not-begun

  -- at any
  none_there : AllStand → (p : ℕ) → p < a.kept.count → line p ≡ []
  none_there stand p h =
      let entries = entries_in a in
      let below : p < length entries = omega (arith, counted a) in
      let any : Entry = record { call = take_back; answer = told (Ok tt) } in
      ap line (sym (length-take-le p entries (omega (arith, below))))
      ∙ none_at stand (take p entries) (drop (suc p) entries) (get_or entries p any) (split_at entries p any below)

  pub page_none : (no_drafts a.marks a.numbers a.kept.count ≡ true) ↔ AllStand
  page_none = (
    λ h n front later b split begun.
        no_line_stands _ _ _ _ _
        (sym (page_drafts a front later b split n begun)
        ∙ each_none a.marks a.numbers a.kept.count h (length front) (place_below a front later b split)),
    λ stand. all_none a.marks a.numbers a.kept.count (none_there stand),
  )
