-- What a picture's bookies hold, by ledger.
use Rattle.std.specs.Prelude.{◌≡◌, ℕ, ◌==◌, List, [], map, Option, Vec}
use Rattle.std.specs.Borrow.{Bor}
use Rattle.std.specs.List.{filter}
use Rattle.std.specs.Option.{option_map_or}
use Rattle.reh_picture.specs.Contents.{Holding}

-- the holdings that a ledger may have
abbrev pub held_in : {A : Type 0} → Option (Vec (Bor Holding) A) → List Holding
held_in held = option_map_or (λ held. map (λ h. h.now) held.items) held []

-- each ledger has those of the holdings that are of it, in order
abbrev pub AreOf : {A : Type 0} → List Holding → (ℕ → Option (Vec (Bor Holding) A)) → Type 0
AreOf holdings by_ledger =
    (ledger : ℕ) → held_in (by_ledger ledger) ≡ filter (λ holding. holding.ledger == ledger) holdings
