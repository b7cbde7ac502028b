-- What reading a text, or reading on in a script, gives.
use Rattle.std.proofs.Common.{◌≡◌, ℕ, ◌+◌, ◌<◌, ◌≤◌, Bool, true, false, List, [], ◌∷◌, ◌++◌, length, take, Option, None, Some}
use Rattle.std.proofs.Common.{refl, sym, ap, ◌∙◌, subst, arith, append-nil, length-append}
use mathlib.Core.List.{append_assoc}
use Rattle.std.proofs.Math.Seq.{take-append_seam}
use Rattle.std.proofs.lemmas.List.{take-append-le}
use Rattle.std.proofs.KnownBytes.{Consumes-trans}
use Rattle.std.specs.Io.KnownBytes.{Consumes}
use Rattle.std.specs.Option.{IfSome}
use Rattle.reh_types.specs.declared.limits.TheConstants.{MAX_SCRIPT_BYTES}
use Rattle.reh_lines.specs.Lines.{ended}
use Rattle.reh_lines.specs.Readings.{IsQuiet, IsQuietUntil, ReadsEnough, ReadsOn, ReadsPast}
use Rattle.reh_lines.specs.declared.readings.Progress.{Progress}
use Rattle.reh_lines.specs.declared.readings.Progress.TheVariants.{Lines, End, Failed, TooLong}
use Rattle.reh_lines.proofs.EndedLaws.{has_lf, ended_none}
use Rattle.reh_lines.proofs.Parts.{ended-loud, ended-front, ended-some_bytes, has_lf-append}

-- bytes of which no line is complete have no LF
quiet : (fresh : List ℕ) → length (ended fresh) ≡ 0 → IsQuiet fresh
quiet fresh none =
    elim (has_lf fresh) as (λ t. has_lf fresh ≡ t → has_lf fresh ≡ false) [
      | true ↦ λ some. absurd (omega (arith, none, ended-some_bytes fresh some))
      | false ↦ λ is. is
    ] refl

loud : (fresh : List ℕ) → 0 < length (ended fresh) → has_lf fresh ≡ true
loud fresh some =
    elim (has_lf fresh) as (λ t. has_lf fresh ≡ t → has_lf fresh ≡ true) [
      | true ↦ λ is. is
      | false ↦ λ none. absurd (omega (arith, some, ap length (ended_none fresh none)))
    ] refl

-- how far the lines of a text are complete
complete : (text fresh : List ℕ) → 0 < length (ended fresh)
    → take (length text + length (ended fresh)) (text ++ fresh) ≡ ended (text ++ fresh)
complete text fresh some =
    let back = ended-front fresh in
    let split : text ++ fresh ≡ (text ++ ended fresh) ++ back.0 =
    ap (λ (bytes : List ℕ). text ++ bytes) back.1 ∙ sym (append_assoc text (ended fresh) back.0) in
    (λ i. take (sym (length-append text (ended fresh)) i) (split i))
    ∙ take-append_seam (text ++ ended fresh) back.0
    ∙ sym (ended-loud text fresh (loud fresh some))

pub reads_lines : (old text bytes fresh new part : List ℕ) (before : ℕ) (a b c : Option (List ℕ)) (failed : Bool)
    → text ≡ old ++ bytes → new ≡ text ++ fresh → part ≡ ended fresh → before ≡ length text → 0 < length part
    → Consumes a b bytes → Consumes b c fresh → failed ≡ false
    → ReadsOn (Lines (before + length part)) old new a c failed
reads_lines old text bytes fresh new part before a b c failed is more ends at some first next fine =
    let whole : new ≡ old ++ (bytes ++ fresh) =
    more ∙ ap (λ (t : List ℕ). t ++ fresh) is ∙ append_assoc old bytes fresh in
    let some_lines : 0 < length (ended fresh) = subst (λ (t : List ℕ). 0 < length t) ends some in
    let place : before + length part ≡ length text + length (ended fresh) =
    (λ i. at i + length (ends i)) in
    let back = ended-front fresh in (
      bytes ++ fresh,
      whole,
      Consumes-trans a b c bytes fresh first next,
      (λ i. take (place i) (more i)) ∙ complete text fresh some_lines ∙ ap ended (sym more),
      omega (arith, place, some_lines, ap length is, length-append old bytes),
      omega (arith, place, ap length more, length-append text fresh, ap length back.1, length-append (ended fresh) back.0),
      fine,
    )

pub reads_quiet : (old text bytes fresh new part : List ℕ) (a b c : Option (List ℕ))
    → text ≡ old ++ bytes → new ≡ text ++ fresh → part ≡ ended fresh → length part ≡ 0
    → Consumes a b bytes → IsQuiet bytes → Consumes b c fresh
    → (more : List ℕ) × (new ≡ old ++ more) × Consumes a c more × IsQuiet more
reads_quiet old text bytes fresh new part a b c is grown ends none first was next =
    let still : IsQuiet fresh = quiet fresh (sym (ap length ends) ∙ none) in (
      bytes ++ fresh,
      grown ∙ ap (λ (t : List ℕ). t ++ fresh) is ∙ append_assoc old bytes fresh,
      Consumes-trans a b c bytes fresh first next,
      has_lf-append bytes fresh still ∙ was,
    )

pub reads_past : (progress : Progress) (old new bytes : List ℕ) (a b c : Option (List ℕ)) (failed : Bool)
    → new ≡ old ++ bytes → Consumes a b bytes → IsQuiet bytes → length new ≡ MAX_SCRIPT_BYTES
    → ReadsPast progress b c failed → ReadsOn progress old new a c failed
reads_past (Lines end) old new bytes a b c failed is first was full past = absurd past
reads_past End old new bytes a b c failed is first was full past = (
  bytes,
  is,
  subst (λ (t : List ℕ). Consumes a c t) (append-nil bytes) (Consumes-trans a b c bytes [] first past.0),
  was,
  past.1,
  past.2,
)
reads_past Failed old new bytes a b c failed is first was full past = (
  bytes,
  is,
  subst (λ (t : List ℕ). Consumes a c t) (append-nil bytes) (Consumes-trans a b c bytes [] first past.0),
  was,
  past.1,
)
reads_past TooLong old new bytes a b c failed is first was full past =
    (bytes, past.0, is, Consumes-trans a b c bytes (past.0 ∷ []) first past.1, was, full, past.2)

-- what a read gave at the front of a block
pub given_front : (a b : Option (List ℕ)) (count : ℕ) (given rest : List ℕ) → count ≤ length given
    → Consumes a b (take count given) → Consumes a b (take count (given ++ rest))
given_front a b count given rest within takes =
    subst (λ (t : List ℕ). Consumes a b t) (sym (take-append-le count given rest within)) takes

-- what was given before the last call ends no line
pub quiet_until : (old left before : Option (List ℕ)) (bytes : List ℕ) → Consumes old left bytes → IsQuiet bytes
    → before ≡ left → IsQuietUntil old before
quiet_until old left before bytes given was last = subst (IsQuietUntil old) (sym last) (bytes, was, given)

-- there are enough bytes, whatever follows them
pub read_enough : (enough : ℕ) (bytes : List ℕ) (old left : Option (List ℕ)) → Consumes old left bytes
    → enough ≤ length bytes → IfSome old (λ all. ReadsEnough enough bytes all)
read_enough enough bytes None left given full = tt
read_enough enough bytes (Some all) None given full = absurd given
read_enough enough bytes (Some all) (Some rest) given full = (rest, given, λ few. absurd (omega arith))
