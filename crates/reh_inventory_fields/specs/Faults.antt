-- When a call fails with a fault, and where in a line faults are.
use Rattle.std.specs.Prelude.{◌≡◌, ◌≢◌, ℕ, ◌+◌, List, [], ◌∷◌, ◌++◌, Option, None, Some, Result, MatchResult}
use Rattle.std.specs.Option.{option_map, option_or}
use Rattle.serde_json.specs.Data.{Data}
use Rattle.reh_inventory_fields.specs.declared.faults.Fault.{Fault}
use Rattle.reh_inventory_fields.specs.declared.faults.Fault.TheVariants.{NoMemory}
use Rattle.reh_inventory_fields.specs.declared.places.Place.{Place}
use Rattle.reh_inventory_fields.specs.declared.places.LineFault.{LineFault}

-- The call fails with this fault, and succeeds where there is none; but for lack of memory it may always fail.
abbrev pub FailsWith : {A : Type 0} → Result A Fault → Option Fault → Type 0
FailsWith result fault = MatchResult result (λ _. fault ≡ None) (λ failure. failure ≢ NoMemory → fault ≡ Some failure)

-- a check's fault, at this place
abbrev pub fault_at : Place → Option Fault → Option (Fault × Place)
fault_at here check = option_map (λ fault. (fault, here)) check

-- the first fault along a list, each element judged by its number and with those that stand before it
abbrev pub fault_along : (ℕ → List Data → Data → Option (Fault × Place)) → ℕ → List Data → List Data
    → Option (Fault × Place)
fault_along judge number before [] = None
fault_along judge number before (d ∷ ds) =
    option_or (judge number before d) (fault_along judge (number + 1) (before ++ d ∷ []) ds)

-- The call fails with this fault at its place, and succeeds where there is none; but for lack of memory it may always
-- fail.
abbrev pub FailsAt : {A : Type 0} → Result A LineFault → Option (Fault × Place) → Type 0
FailsAt result fault =
    MatchResult result (λ _. fault ≡ None)
    (λ failure. failure.fault ≢ NoMemory → fault ≡ Some (failure.fault, failure.place))
