-- A clerk's question: is a journal that was read and then written anew still the same journal? The
-- text is that of crates/listing/specs/Written.antt, and the reading that of
-- crates/wording/specs/Line.antt. Assumes nothing.
use Rattle.std.specs.Prelude.{ℕ, suc, ◌^◌, ◌<◌, true, ◌≡◌, length, Ok, List, [], ◌∷◌, ◌++◌}
use mathlib.Core.List.{Memᴰ}
use Rattle.worksheet.specs.Desks.{open_of}
use Rattle.wording.specs.declared.number.Decimal.{Decimal}
use Rattle.wording.specs.declared.line.Line.TheVariants.{Open, Call}
use Rattle.wording.specs.declared.written.WrittenRoute.{WrittenRoute}
use Rattle.wording.specs.declared.written.WrittenFactors.{WrittenFactors}
use Rattle.wording.specs.declared.written.WrittenPole.{WrittenPole}
use Rattle.wording.specs.declared.written.WrittenInputs.{WrittenInputs}
use Rattle.wording.specs.declared.written.WrittenEdit.{WrittenEdit}
use Rattle.wording.specs.declared.written.WrittenEdit.TheVariants.{Sunspot, Hour, Path, Psc, Pole, Month, Model}
use Rattle.wording.specs.declared.written.WrittenCall.{WrittenCall}
use Rattle.wording.specs.declared.written.WrittenCall.TheVariants.{Begin, Change, Commit, Cancel, TakeBack, Show}
use Rattle.wording.specs.Number.{is_written}
use Rattle.wording.specs.Line.{line_in}
use Rattle.wording.specs.Written.{inputs_written}
use Rattle.listing.specs.Written.{open_text, call_text, line_text}
use Rattle.auditing.specs.Gathered.{text_lines, Numbered, sits, told_by}

-- ---- words of this page

-- a decimal that can be written: at most 18 digits, zeros in front not counted, and at most 18 after the point
abbrev pub Few : Decimal → Type 0
Few d = is_written d ≡ true

-- a whole number that can be written, a desk's or a month's: one that a `u32` holds
abbrev pub Fits : ℕ → Type 0
Fits n = n < 2 ^ 32

-- the flag of a path that can be written, and a model: 0 or 1
pub data Flag : ℕ → Type 0 where
  off : Flag 0
  on : Flag 1

-- a path that can be written: its four numbers and its flag
pub record GoodRoute (p : WrittenRoute) : Type 0 where
  pub tlat : Few p.tlat
  pub tlong : Few p.tlong
  pub rlat : Few p.rlat
  pub rlong : Few p.rlong
  pub long : Flag p.long_path

-- four factors that can be written
pub record GoodFactors (p : WrittenFactors) : Type 0 where
  pub e : Few p.e
  pub f1 : Few p.f1
  pub f2 : Few p.f2
  pub es : Few p.es

-- a pole that can be written
pub record GoodPole (p : WrittenPole) : Type 0 where
  pub lat : Few p.lat
  pub lon : Few p.lon

-- an open that can be written: each part of its inputs. Nothing is asked of ranges: it may be one that
-- is refused
pub record GoodInputs (o : WrittenInputs) : Type 0 where
  pub month : Fits o.month
  pub ssn : Few o.ssn
  pub gmt : Few o.gmt
  pub route : GoodRoute o.route
  pub psc : GoodFactors o.psc
  pub pole : GoodPole o.pole
  pub model : Flag o.model

-- a change that can be written: what it brings
pub data GoodEdit : WrittenEdit → Type 0 where
  sunspot : {d : Decimal} → Few d → GoodEdit (Sunspot d)
  hour : {d : Decimal} → Few d → GoodEdit (Hour d)
  path : {p : WrittenRoute} → GoodRoute p → GoodEdit (Path p)
  psc : {p : WrittenFactors} → GoodFactors p → GoodEdit (Psc p)
  pole : {p : WrittenPole} → GoodPole p → GoodEdit (Pole p)
  month : {m : ℕ} → Fits m → GoodEdit (Month m)
  model : {m : ℕ} → Flag m → GoodEdit (Model m)

-- a call that can be written: its number, which need be no desk's, and its change
pub data GoodCall : WrittenCall → Type 0 where
  begin : {n : ℕ} → Fits n → GoodCall (Begin n)
  change : {n : ℕ} {e : WrittenEdit} → Fits n → GoodEdit e → GoodCall (Change n e)
  commit : {n : ℕ} → Fits n → GoodCall (Commit n)
  cancel : {n : ℕ} → Fits n → GoodCall (Cancel n)
  take_back : GoodCall TakeBack
  show : {n : ℕ} → Fits n → GoodCall (Show n)

-- calls written anew, a line each
unfoldable pub call_lines : List WrittenCall → List ℕ
call_lines [] = []
call_lines (c ∷ cs) = line_text (Call c) ++ call_lines cs

-- calls with the numbers of their lines, of which the first is line n
unfoldable pub numbered_from : ℕ → List WrittenCall → List Numbered
numbered_from n [] = []
numbered_from n (c ∷ cs) = record { call = c; line = n } ∷ numbered_from (suc n) cs

-- ---- a call

-- The four together: a call that was read from a line, written anew and read again is the same call, and
-- so is an open.

-- The text of every call that can be written (`GoodCall`: decimals of at most 18 digits, whole numbers
-- below 2^32, flags and models 0 or 1) reads as that call
abbrev pub CallReread : Type 0
CallReread = (c : WrittenCall) → GoodCall c → line_in (call_text c) ≡ Call c

-- The text of every open that can be written (`GoodInputs`) reads as that open
abbrev pub OpenReread : Type 0
OpenReread = (o : WrittenInputs) → GoodInputs o → line_in (open_text o) ≡ Open o

-- Every call that some line reads as can be written
abbrev pub CallsGood : Type 0
CallsGood = (l : List ℕ) (c : WrittenCall) → line_in l ≡ Call c → GoodCall c

-- Every open that some line reads as can be written
abbrev pub OpensGood : Type 0
OpensGood = (l : List ℕ) (o : WrittenInputs) → line_in l ≡ Open o → GoodInputs o

-- ---- a line

-- A call that can be written is one line as it is kept, its text, whatever follows it
abbrev pub CallOneLine : Type 0
CallOneLine =
    (c : WrittenCall) → GoodCall c →
    (text_lines (line_text (Call c)) ≡ call_text c ∷ [])
    × ((rest : List ℕ) → text_lines (line_text (Call c) ++ rest) ≡ call_text c ∷ text_lines rest)

-- So is an open that can be written
abbrev pub OpenOneLine : Type 0
OpenOneLine =
    (o : WrittenInputs) → GoodInputs o →
    (text_lines (line_text (Open o)) ≡ open_text o ∷ [])
    × ((rest : List ℕ) → text_lines (line_text (Open o) ++ rest) ≡ open_text o ∷ text_lines rest)

-- ---- a journal

-- An open that is accepted, and calls, all of which can be written: as they are kept, a line each, they
-- are told as that open on line 1 and those calls from line 2 on
abbrev pub JournalRewritten : Type 0
JournalRewritten =
    (o : WrittenInputs) (cs : List WrittenCall) → GoodInputs o → (open_of (inputs_written o)).answer ≡ Ok tt →
    ((c : WrittenCall) → Memᴰ c cs → GoodCall c) →
    told_by (line_text (Open o) ++ call_lines cs) (suc (length cs)) ≡ sits o 1 (numbered_from 2 cs)
