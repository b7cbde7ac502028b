-- How far a script was read whose first lines were answered.
use Rattle.std.proofs.Common.{◌≡◌, ℕ, ◌+◌, ◌-◌, ◌≤◌, ◌⊎◌, inl, inr, Bool, true, false, List, [], ◌∷◌, ◌++◌, length}
use Rattle.std.proofs.Common.{take, drop, Option, None, Some, refl, sym, ap, ◌∙◌, subst, arith, length-append}
use Rattle.std.specs.Prelude.{IfSome}
use mathlib.Core.List.{append_assoc}
use Rattle.std.proofs.Math.Seq.{take-add}
use Rattle.std.proofs.lemmas.List.{take_at, take_rest, take-append-le, take-append-drop, length-drop, length-take-le}
use Rattle.std.proofs.KnownBytes.{Consumes-trans}
use Rattle.std.specs.Io.KnownBytes.{Consumes, IsAtEnd, prepend_known}
use Rattle.reh_types.specs.declared.limits.TheConstants.{MAX_SCRIPT_BYTES}
use Rattle.reh_lines.specs.Lines.{ended}
use Rattle.reh_lines.specs.Readings.{IsQuiet, ReadsOn, reads_past}
use Rattle.reh_lines.specs.declared.readings.Progress.{Progress}
use Rattle.reh_lines.specs.declared.readings.Progress.TheVariants as progress
use Rattle.reh_lines.proofs.Parts.{ended-front, ended-quiet, ended_twice}

-- Where one stands who has done with the lines of so many bytes of a script, after reading on.
abbrev pub Stands : Progress → ℕ → List ℕ → Option (List ℕ) → Option (List ℕ) → Bool → Type 0
Stands (progress.Lines end) done script left_old left failed =
    (done ≤ end) × (end ≤ length script) × (take end script ≡ ended script) × Consumes left_old left script
    × (failed ≡ false)
Stands progress.End done script left_old left failed =
    (take done script ≡ ended script) × Consumes left_old left script × IsAtEnd left × (failed ≡ false)
Stands progress.Failed done script left_old left failed =
    (take done script ≡ ended script) × Consumes left_old left script × (failed ≡ true)
Stands progress.TooLong done script left_old left failed =
    (byte : ℕ) × (take done script ≡ ended script) × Consumes left_old left (script ++ byte ∷ [])
    × (length script ≡ MAX_SCRIPT_BYTES) × (failed ≡ false)

-- what stands in front stays there
pub front_stays : (n : ℕ) (old new more : List ℕ) → n ≤ length old → new ≡ old ++ more → take n new ≡ take n old
front_stays n old new more within is = ap (take n) is ∙ take-append-le n old more within

-- no line was completed
quiet_stays : (n : ℕ) (old new more : List ℕ) → n ≤ length old → take n old ≡ ended old → new ≡ old ++ more
    → IsQuiet more → take n new ≡ ended new
quiet_stays n old new more within all is quiet =
    front_stays n old new more within is ∙ all ∙ sym (ended-quiet old more quiet) ∙ ap ended (sym is)

consumes_on : (left_old left next : Option (List ℕ)) (old new more : List ℕ) → new ≡ old ++ more
    → Consumes left_old left old → Consumes left next more → Consumes left_old next new
consumes_on left_old left next old new more is first then =
    subst (λ (t : List ℕ). Consumes left_old next t) (sym is)
    (Consumes-trans left_old left next old more first then)

-- after reading on
pub stands_on : (p : Progress) (end : ℕ) (old new : List ℕ) (left_old left next : Option (List ℕ)) (failed : Bool)
    → end ≤ length old → take end old ≡ ended old → Consumes left_old left old → ReadsOn p old new left next failed
    → Stands p end new left_old next failed
stands_on (progress.Lines later) end old new left_old left next failed within all first reads =
    (omega (arith, reads.4), reads.5, reads.3, consumes_on left_old left next old new reads.0 reads.1 first reads.2, reads.6)
stands_on progress.End end old new left_old left next failed within all first reads = (
  quiet_stays end old new reads.0 within all reads.1 reads.3,
  consumes_on left_old left next old new reads.0 reads.1 first reads.2,
  reads.4,
  reads.5,
)
stands_on progress.Failed end old new left_old left next failed within all first reads = (
  quiet_stays end old new reads.0 within all reads.1 reads.3,
  consumes_on left_old left next old new reads.0 reads.1 first reads.2,
  reads.4,
)
stands_on progress.TooLong end old new left_old left next failed within all first reads = (
  reads.1,
  quiet_stays end old new reads.0 within all reads.2 reads.4,
  consumes_on left_old left next old (new ++ reads.1 ∷ []) (reads.0 ++ reads.1 ∷ [])
      (ap (λ (t : List ℕ). t ++ reads.1 ∷ []) reads.2 ∙ append_assoc old reads.0 (reads.1 ∷ [])) first reads.3,
  reads.5,
  reads.6,
)

pub grown_by : (p : Progress) (old new : List ℕ) (left next : Option (List ℕ)) (failed : Bool)
    → ReadsOn p old new left next failed → (more : List ℕ) × (new ≡ old ++ more)
grown_by (progress.Lines later) old new left next failed reads = (reads.0, reads.1)
grown_by progress.End old new left next failed reads = (reads.0, reads.1)
grown_by progress.Failed old new left next failed reads = (reads.0, reads.1)
grown_by progress.TooLong old new left next failed reads = (reads.0, reads.2)

-- the bytes from one place to another, which a slice gives
pub joined : (done end : ℕ) (script : List ℕ) → done ≤ end
    → take end script ≡ take done script ++ take (end - done) (drop done script)
joined done end script order =
    let length_is : done + (end - done) ≡ end = omega arith in
    ap (λ (n : ℕ). take n script) (sym length_is) ∙ take-add done (end - done) script

-- what a reader gives, of which these bytes came
pub told : (left_old left : Option (List ℕ)) (bytes : List ℕ) → Consumes left_old left bytes
    → (more : List ℕ) × IfSome left_old (λ all. bytes ++ more ≡ all)
told None left bytes given = ([], tt)
told (Some all) None bytes given = absurd given
told (Some all) (Some rest) bytes given = (rest, sym given)

-- The lines that are complete

pub lines_stand : (p : Progress) (end done : ℕ) (script : List ℕ) (left_old left : Option (List ℕ)) (failed : Bool)
    → p ≡ progress.Lines end → Stands p done script left_old left failed
    → Stands (progress.Lines end) done script left_old left failed
lines_stand p end done script left_old left failed is stands =
    subst (λ (q : Progress). Stands q done script left_old left failed) is stands

pub whole_part : (done end : ℕ) (script : List ℕ) → done ≤ end → take end script ≡ ended script
    → take done script ++ take (end - done) (drop done script) ≡ ended script
whole_part done end script order all = sym (joined done end script order) ∙ all

-- where the script ends
pub end_is : (p : Progress) → ((end : ℕ) → p ≡ progress.Lines end → ⊥)
    → ((end : ℕ) × (p ≡ progress.Lines end)) ⊎ (p ≡ progress.End) → p ≡ progress.End
end_is p not (inl lines) = absurd (not lines.0 lines.1)
end_is p not (inr is) = is

pub end_stands : (p : Progress) (done : ℕ) (script : List ℕ) (left_old left : Option (List ℕ)) (failed : Bool)
    → ((end : ℕ) → p ≡ progress.Lines end → ⊥) → ((end : ℕ) × (p ≡ progress.Lines end)) ⊎ (p ≡ progress.End)
    → Stands p done script left_old left failed → Stands progress.End done script left_old left failed
end_stands p done script left_old left failed not lines stands =
    subst (λ (q : Progress). Stands q done script left_old left failed) (end_is p not lines) stands

pub end_calls : (p : Progress) → ((end : ℕ) → p ≡ progress.Lines end → ⊥)
    → ((end : ℕ) × (p ≡ progress.Lines end)) ⊎ (p ≡ progress.End) → reads_past p ≡ 1
end_calls p not lines = ap reads_past (end_is p not lines)

pub all_parts : (done : ℕ) (script : List ℕ) → take done script ++ take (length script - done) (drop done script) ≡ script
all_parts done script =
    ap (λ (t : List ℕ). take done script ++ t) (take_rest script done) ∙ take-append-drop done script

-- before anything more is read
at_hand : (script : List ℕ) (left : Option (List ℕ)) → Consumes (prepend_known script left) left script
at_hand script None = tt
at_hand script (Some rest) = refl

pub stands_first : (script first : List ℕ) (left : Option (List ℕ)) (failed : Bool) → first ≡ ended script
    → failed ≡ false → Stands (progress.Lines (length first)) 0 script (prepend_known script left) left failed
stands_first script first left failed is fine =
    let back = ended-front script in (
      omega arith,
      omega (arith, ap length is, ap length back.1, length-append (ended script) back.0),
      ap (λ (text : List ℕ). take (length text) script) is ∙ ap (take (length (ended script))) back.1
          ∙ take_at (ended script) back.0 (length (ended script)) refl,
      at_hand script left,
      fine,
    )

pub still_whole : (end : ℕ) (script new : List ℕ) (p : Progress) (left next : Option (List ℕ)) (failed : Bool)
    → end ≤ length script → take end script ≡ ended script → ReadsOn p script new left next failed
    → ended (take end new) ≡ take end new
still_whole end script new p left next failed within all reads =
    let more = grown_by p script new left next failed reads in
    let is : take end new ≡ ended script = front_stays end script new more.0 within more.1 ∙ all in
    ap ended is ∙ ended_twice script ∙ sym is

pub still_within : (end : ℕ) (script new : List ℕ) (p : Progress) (left next : Option (List ℕ)) (failed : Bool)
    → end ≤ length script → ReadsOn p script new left next failed → end ≤ length new
still_within end script new p left next failed within reads =
    let more = grown_by p script new left next failed reads in
    omega (arith, within, ap length more.1, length-append script more.0)

-- there are no more lines than bytes
pub count_within : (done end number n : ℕ) (script : List ℕ) → done ≤ end → end ≤ length script → number ≤ done
    → n ≤ number + length (take (end - done) (drop done script)) → n ≤ end
count_within done end number n script order within few more =
    let room : end - done ≤ length (drop done script) = omega (arith, length-drop done script) in
    omega (arith, more, length-take-le (end - done) (drop done script) room)
