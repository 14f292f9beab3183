-- A call as a run of little-endian words, as docs/PROGRAMS.md's tables of calls have it. Assumes
-- nothing.
use Rattle.std.specs.Prelude.{ℕ, ◌*◌, cond, List, [], ◌∷◌, ltb, get_or}
use Rattle.base.specs.Words.{word_at, float_at}
use Rattle.worksheet.specs.declared.inputs.Edit.{Edit}
use Rattle.worksheet.specs.declared.inputs.Edit.TheVariants.{Sunspot, Hour, Path, Psc, Pole, Month, Model}
use Rattle.worksheet.specs.declared.journal.Call.TheVariants.{Begin, Change, Commit, Cancel, TakeBack, Show}
use Rattle.worksheet.specs.declared.showing.Lent.{Lent}
use Rattle.worksheet.specs.declared.showing.Lent.TheVariants.{Pair, Year}
use Rattle.base.specs.declared.angle.Degrees.{Degrees}
use Rattle.listing.specs.declared.call.Read.{Read}
use Rattle.listing.specs.declared.call.Read.TheVariants.{Bad, Call as Called}

-- ---- the words after the operation's: the desk at byte 0, the numbers of a change from byte 4 on

abbrev pub degrees_at : List ℕ → ℕ → Degrees
degrees_at s at = record { 0 = float_at s at }

abbrev pub desk_in : List ℕ → ℕ
desk_in s = word_at s 0

-- transmitter latitude, longitude, receiver latitude, longitude, flag
unfoldable pub path_edit : List ℕ → Edit
path_edit s =
    Path
    (record {
      tlat = degrees_at s 4;
      tlong = degrees_at s 8;
      rlat = degrees_at s 12;
      rlong = degrees_at s 16;
      long_path = word_at s 20;
    })

-- four factors in the order E, F1, F2, Es
unfoldable pub psc_edit : List ℕ → Edit
psc_edit s = Psc (record { e = float_at s 4; f1 = float_at s 8; f2 = float_at s 12; es = float_at s 16 })

-- pole latitude, longitude
unfoldable pub pole_edit : List ℕ → Edit
pole_edit s = Pole (record { lat = degrees_at s 4; lon = degrees_at s 8 })

unfoldable pub change_in : List ℕ → Edit → Read
change_in s e = Called (Change (desk_in s) e)

-- ---- the table of calls

-- an operation: the words after its number, and the call that they are
pub record Operation : Type 0 where
  pub words : ℕ
  pub call : List ℕ → Read

abbrev operation : ℕ → (List ℕ → Read) → Operation
operation words call = record { words = words; call = call }

abbrev pub unknown : Operation
unknown = operation 0 (λ s. Bad)

-- by number, from 0 on
abbrev pub operations : List Operation
operations =
    unknown
    -- 1, desk: begin a draft
    ∷ operation 1 (λ s. Called (Begin (desk_in s)))
    -- 2, desk, x: change its sunspot number; 3: its hour
    ∷ operation 2 (λ s. change_in s (Sunspot (float_at s 4)))
    ∷ operation 2 (λ s. change_in s (Hour (float_at s 4)))
    -- 4, desk, four numbers, flag: change its path; 5, desk, four numbers: its factors; 6, desk,
    -- two numbers: its pole
    ∷ operation 6 (λ s. change_in s (path_edit s))
    ∷ operation 5 (λ s. change_in s (psc_edit s))
    ∷ operation 3 (λ s. change_in s (pole_edit s))
    -- 7, desk: commit; 8, desk: cancel
    ∷ operation 1 (λ s. Called (Commit (desk_in s)))
    ∷ operation 1 (λ s. Called (Cancel (desk_in s)))
    -- 9: take back
    ∷ operation 0 (λ s. Called TakeBack)
    -- 10, desk: show the desk's draft, or the worksheet for desk 0
    ∷ operation 1 (λ s. Called (Show (desk_in s)))
    -- over a year file: 11, desk, month: change its month; 12, desk, model: its F2 model
    ∷ operation 2 (λ s. change_in s (Month (word_at s 4)))
    ∷ operation 2 (λ s. change_in s (Model (word_at s 4)))
    ∷ []

abbrev pub operation_of : ℕ → Operation
operation_of number = get_or operations number unknown

-- a journal over a pair of files does not know 11 and 12
unfoldable pub pair_operation : ℕ → ℕ
pair_operation number = cond (ltb 10 number) 0 number

abbrev pub operation_in : Lent → ℕ → ℕ
operation_in Pair number = pair_operation number
operation_in Year number = number

-- how many bytes follow the operation's word
unfoldable pub size_of : ℕ → ℕ
size_of number = 4 * (operation_of number).words

-- the call of an operation, from those bytes; the programs stop where they are not all there
unfoldable pub call_in : ℕ → List ℕ → Read
call_in number s = (operation_of number).call s
