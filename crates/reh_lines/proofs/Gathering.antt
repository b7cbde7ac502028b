-- What a writer that gathers holds, and what its other end can see.
use Rattle.std.proofs.Common.{◌≡◌, ℕ, ◌-◌, List, [], ◌++◌, length, take, drop, Option, None, Some, refl, sym}
use Rattle.std.proofs.Common.{ap, ◌∙◌, append-nil}
use mathlib.Core.List.{append_assoc}
use Rattle.std.proofs.lemmas.List.{take_rest, take-append-drop}
use Rattle.std.proofs.KnownBytes.{Appends-trans, append_known-moved}
use Rattle.std.specs.Io.KnownBytes.{Appends, Keeps, append_known}
use Rattle.reh_lines.specs.Streams.{Grows}

pub grows_on : (a b c : Option (List ℕ)) → Grows a b → Grows b c → Grows a c
grows_on a b c first next = (first.0 ++ next.0, Appends-trans a b c first.0 next.0 first.1 next.1)

-- some of the bytes that were kept back were sent
pub gathered_sent : (a b : Option (List ℕ)) (kept : List ℕ) (n : ℕ) → Appends a b (take n kept)
    → Keeps (append_known a kept) (append_known b (drop n kept))
gathered_sent a b kept n sends =
    append_known-moved a b (take n kept) (drop n kept) kept sends (sym (take-append-drop n kept))

-- nothing is kept back
pub gathered_none : (a : Option (List ℕ)) → append_known a [] ≡ a
gathered_none None = refl
gathered_none (Some xs) = ap (λ (bytes : List ℕ). Some bytes) (append-nil xs)

-- the first n bytes of what is left are sent too
pub sent_more : (front rest bytes : List ℕ) (n : ℕ) → front ++ rest ≡ bytes
    → (front ++ take n rest) ++ take (length rest - n) (drop n rest) ≡ bytes
sent_more front rest bytes n all =
    append_assoc front (take n rest) (take (length rest - n) (drop n rest))
    ∙ ap (λ xs. front ++ (take n rest ++ xs)) (take_rest rest n)
    ∙ ap (λ xs. front ++ xs) (take-append-drop n rest)
    ∙ all
