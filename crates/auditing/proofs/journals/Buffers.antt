-- A buffer that holds as many of some numbers as it has room for, with one number more: by whether
-- there is room for it. Assumes nothing.
use Rattle.std.proofs.Common.{ℕ, suc, ◌+◌, ◌<◌, ◌≤◌, min, Bool, true, false, List, [], ◌∷◌, ◌++◌, ◌≡◌, refl, sym, ap, ◌∙◌, arith, ltb, ltb-true, ltb-false, length, get_or, set, take, length-append, length-set, take_all, take-suc-set, get_or-set_same, get_or-set_other}
use lib.ListN.{get_or-append}
use lib.Seq.{take-append-le, set_out, get_or_at}
use Rattle.wording.specs.declared.line.Line.{Line}
use Rattle.wording.specs.declared.line.Line.TheVariants as line
use Rattle.wording.specs.declared.written.WrittenCall.TheVariants.{TakeBack}
use Rattle.wording.specs.Line.{line_in}
use Rattle.auditing.specs.Gathered.{Numbered, line_at, ReadsAt, call_told, HoldsFirst}

pub holds_none : (xs buffer : List ℕ) → HoldsFirst 0 xs buffer
holds_none xs buffer =
    let none : min 0 (length buffer) ≡ 0 = omega arith in
    ap (λ (i : ℕ). take i buffer) none ∙ sym (ap (λ (i : ℕ). take i xs) none)

pub holds_more :
    (xs buffer : List ℕ) (x count : ℕ) → length xs ≡ count → HoldsFirst count xs buffer →
    HoldsFirst (count + 1) (xs ++ (x ∷ [])) (set buffer count x)
holds_more xs buffer x count e h = go (ltb count (length buffer)) refl
  where
    go : (b : Bool) → ltb count (length buffer) ≡ b → HoldsFirst (count + 1) (xs ++ (x ∷ [])) (set buffer count x)
    go true t =
        let below : count < length buffer = ltb-true count (length buffer) t in
        let room = length-set buffer count x in
        let size = length-append xs (x ∷ []) in
        let n : count ≡ min count (length buffer) = omega arith in
        let next : min (count + 1) (length (set buffer count x)) ≡ suc count = omega arith in
        ap (λ (i : ℕ). take i (set buffer count x)) next
        ∙ take-suc-set buffer count x below
        ∙ ap (λ (l : List ℕ). l ++ (x ∷ []))
        (ap (λ (i : ℕ). take i buffer) n ∙ h ∙ sym (ap (λ (i : ℕ). take i xs) n) ∙ take_all count xs (omega arith))
        ∙ sym (ap (λ (i : ℕ). take i (xs ++ (x ∷ []))) next ∙ take_all (suc count) (xs ++ (x ∷ [])) (omega arith))
    go false t =
        let above : length buffer ≤ count = ltb-false count (length buffer) t in
        let room = length-set buffer count x in
        let n : min (count + 1) (length (set buffer count x)) ≡ min count (length buffer) = omega arith in
        ap (λ (i : ℕ). take i (set buffer count x)) n
        ∙ ap (take (min count (length buffer))) (set_out buffer count x above)
        ∙ h
        ∙ sym (take-append-le (min count (length buffer)) xs (x ∷ []) (omega arith))
        ∙ sym (ap (λ (i : ℕ). take i (xs ++ (x ∷ []))) n)

-- ---- where the calls' lines begin

-- past the calls' end, as `call_told` has it
abbrev none : Numbered
none = record { call = TakeBack; line = 0 }

abbrev as_line : Numbered → Line
as_line x = line.Call x.call

begins_as :
    (text : List ℕ) {s s' : ℕ} {l l' : Line} → s ≡ s' → l ≡ l' → ReadsAt text s' l' → ReadsAt text s l
begins_as text p q b =
    record { within = omega (arith, b.within); said = ap (λ (k : ℕ). line_in (line_at text k)) p ∙ b.said ∙ sym q }

pub starts_more :
    (text : List ℕ) (cs : List Numbered) (x : Numbered) (starts : List ℕ) (count s : ℕ) → count ≡ length cs →
    ((i : ℕ) → i < count → i < length starts → ReadsAt text (get_or starts i 0) (line.Call (call_told cs i))) →
    ReadsAt text s (line.Call x.call) →
    (i : ℕ) → i < count + 1 → i < length (set starts count s) →
    ReadsAt text (get_or (set starts count s) i 0) (line.Call (call_told (cs ++ (x ∷ [])) i))
starts_more text cs x starts count s e before here i below room = go (ltb i count) refl
  where
    go : (b : Bool) → ltb i count ≡ b →
        ReadsAt text (get_or (set starts count s) i 0) (line.Call (call_told (cs ++ (x ∷ [])) i))
    go true t =
        let size = length-set starts count s in
        let first : i < count = ltb-true i count t in
        begins_as text (get_or-set_other starts count i s 0 (λ q. omega arith))
        (ap as_line (get_or-append cs (x ∷ []) none i (omega arith))) (before i first (omega arith))
    go false t =
        let size = length-set starts count s in
        let past : count ≤ i = ltb-false i count t in
        let last : i ≡ count = omega arith in
        begins_as text
        (ap (λ (k : ℕ). get_or (set starts count s) k 0) last ∙ get_or-set_same starts count s 0 (omega arith))
        (ap as_line (get_or_at cs x [] none i (omega arith))) here
