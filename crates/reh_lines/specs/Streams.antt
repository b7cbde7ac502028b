-- What a reader found, and what the other end of a writer can see.
use Rattle.std.specs.Prelude.{◌≡◌, refl, ℕ, ◌==◌, Bool, false, not, ◌&&◌, List, [], ◌∷◌, ◌++◌, Option, None, Some, Result, Ok, Err}
use Rattle.std.specs.Io.KnownBytes.{Appends, append_known}
use mathlib.Core.List.{append_assoc}
use mathlib.Core.Path.{◌∙◌, ap}

-- whether a call with room for so many bytes was at the end: it took none, though there was room
abbrev pub found_end : {E : Type 0} → Result ℕ E → ℕ → Bool
found_end (Ok count) room = (count == 0) && not (room == 0)
found_end (Err fault) room = false

-- known bytes stay at the front
abbrev pub Grows : Option (List ℕ) → Option (List ℕ) → Type 0
Grows old new = (more : List ℕ) × Appends old new more

-- and these bytes come first after them
abbrev pub Reaches : Option (List ℕ) → Option (List ℕ) → List ℕ → Type 0
Reaches old new bytes = (more : List ℕ) × Appends old new (bytes ++ more)

-- Laws of writers

all_of : (xs : List ℕ) → xs ≡ xs ++ []
all_of [] = refl
all_of (x ∷ xs) = ap (λ (t : List ℕ). x ∷ t) (all_of xs)

appends_none : (a : Option (List ℕ)) → Appends a a []
appends_none None = tt
appends_none (Some xs) = all_of xs

appends_kept : (a b : Option (List ℕ)) (more kept : List ℕ) → Appends a b more
    → Appends a (append_known b kept) (more ++ kept)
appends_kept None b more kept grown = tt
appends_kept (Some xs) None more kept grown = grown
appends_kept (Some xs) (Some ys) more kept grown =
    ap (λ (t : List ℕ). t ++ kept) grown ∙ append_assoc xs more kept

-- nothing was written
pub grows_not : (a : Option (List ℕ)) → Grows a a
grows_not a = ([], appends_none a)

-- what is kept back comes after what was sent
pub grows_kept : (a b : Option (List ℕ)) (kept : List ℕ) → Grows a b → Grows a (append_known b kept)
grows_kept a b kept (more, grown) = (more ++ kept, appends_kept a b more kept grown)
