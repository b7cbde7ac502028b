-- Texts that are written one after the other.
use Rattle.std.proofs.Common.{ℕ, List, ◌++◌, length-append, arith, sym, ap, ◌∙◌}
use Rattle.std.proofs.Common.{Option, None, Some, Result, Ok, Err}
use Rattle.std.specs.Prelude.{IsErrAnd}
use Rattle.std.specs.Io.KnownBytes.{Appends, Keeps}
use Rattle.std.proofs.KnownBytes.{Appends-trans}
use mathlib.Core.List.{append_assoc}
use Rattle.reh_drill.specs.Drills.{Writes}

-- a part of a text is a part of a longer one
pub writes_part : {E F : Type 0} (fault : E) (lost_by : F) (first rest : List ℕ) (old new : Option (List ℕ))
    → Writes (Err fault) first old new → Writes (Err lost_by) (first ++ rest) old new
writes_part fault lost_by first rest old new (part, lost, is, some, written) = (
  part,
  lost ++ rest,
  sym (append_assoc part lost rest) ∙ ap (λ t. t ++ rest) is,
  omega (arith, some, length-append lost rest),
  written,
)

-- handed on
pub writes_failed : {E F : Type 0} (P : F → Type 0) (result : Result (Unit {0}) F) (fault : E) (first rest : List ℕ)
    (old new : Option (List ℕ)) → IsErrAnd result P → Writes (Err fault) first old new
    → Writes result (first ++ rest) old new
writes_failed P (Ok done) fault first rest old new is part = absurd is
writes_failed P (Err e) fault first rest old new is part = writes_part fault e first rest old new part

-- a text after one that was written
pub writes_then : {E : Type 0} (result : Result (Unit {0}) E) (first rest : List ℕ) (old mid new : Option (List ℕ))
    → Appends old mid first → Writes result rest mid new → Writes result (first ++ rest) old new
writes_then (Ok done) first rest old mid new before written = Appends-trans old mid new first rest before written
writes_then (Err fault) first rest old mid new before (part, lost, is, some, written) = (
  first ++ part,
  lost,
  append_assoc first part lost ∙ ap (λ t. first ++ t) is,
  some,
  Appends-trans old mid new first part before written,
)

-- a text that was written, and nothing after it
pub appends_kept : (old mid new : Option (List ℕ)) (text : List ℕ) → Appends old mid text → Keeps mid new
    → Appends old new text
appends_kept None mid new text before kept = tt
appends_kept (Some xs) None new text before kept = absurd before
appends_kept (Some xs) (Some ys) None text before kept = absurd kept
appends_kept (Some xs) (Some ys) (Some zs) text before kept = kept ∙ before
