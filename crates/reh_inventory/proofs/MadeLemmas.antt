-- Of all elements of a list something was made, or one of them has a fault.
use Rattle.std.proofs.Common.{◌≡◌, ℕ, ◌<◌, ◌≤◌, List, [], map, length, take, get_or, Option, None, Some, sym, ap, ◌∙◌}
use Rattle.std.proofs.lemmas.List.{take_all}
use Rattle.std.proofs.Math.ListN.{drop_of_length-le}
use Rattle.serde_json.specs.Data.{Data}
use Rattle.serde_json.specs.View.{view}
use Rattle.serde_json.specs.declared.value.Value.{Value}
use Rattle.reh_inventory_fields.specs.declared.faults.Fault.{Fault}
use Rattle.reh_inventory_fields.specs.declared.places.Place.{Place}
use Rattle.reh_inventory_fields.specs.Faults.{fault_along}
use Rattle.reh_inventory_fields.proofs.Lists.{HasMade, fault_here}

module _ {X : Type 0} (judge : ℕ → List Data → Data → Option (Fault × Place)) (made : Data → X) (xs : List Value) (i : ℕ)
    (things : List X) (so_far : HasMade judge made xs i things) where
  -- past the last one none has a fault
  pub none-faulty : length xs ≤ i → fault_along judge 0 [] (map view xs) ≡ None
  none-faulty past =
      sym so_far.left
      ∙ ap (λ vs. fault_along judge i (map view (take i xs)) (map view vs)) (drop_of_length-le xs past)

  pub all-made : length xs ≤ i → things ≡ map made (map view xs)
  all-made past = so_far.things_are ∙ ap (λ vs. map made (map view vs)) (take_all i xs past)

  -- the fault of the next one is the first of all
  pub next-faulty : (x : Value) → i < length xs → x ≡ get_or xs i x → (found : Fault × Place)
      → judge i (map view (take i xs)) (view x) ≡ Some found → fault_along judge 0 [] (map view xs) ≡ Some found
  next-faulty x within is found here = fault_here judge xs i x within is so_far.left found here
