-- Lines of an inventory, one after another.
use Rattle.std.proofs.Common.{◌≡◌, ℕ, ◌+◌, ◌<◌, List, [], ◌∷◌, map, length, fold, take, drop, get_or, refl, sym, ap, ◌∙◌}
use Rattle.std.specs.Prelude.{Result, Ok, Err}
use Rattle.std.proofs.lemmas.List.{map-append, take-append-drop}
use Rattle.std.proofs.lemmas.List.Sums.{fold-append}
use Rattle.reh_inventory.specs.declared.inventories.InventoryFault.{InventoryFault}
use Rattle.reh_inventory.specs.Inventories.{Inventory, and_bytes, added_bytes, inventory_of, no_lines}
use Rattle.reh_inventory_fields.proofs.Lists.{passed_to, rest_from}

-- after a fault no line is looked at
fold-err : (found : InventoryFault) (lines : List (List ℕ)) → fold and_bytes (Err found) lines ≡ Err found
fold-err found [] = refl
fold-err found (bytes ∷ lines) = fold-err found lines

module _ {A : Type 0} (bytes : A → List ℕ) (xs : List A) (i : ℕ) (x : A) (within : i < length xs)
    (is : x ≡ get_or xs i x) (inventory : Inventory)
    (so_far : inventory_of (map bytes (take i xs)) ≡ Ok inventory) where
  -- one line more
  pub inventory_of-next : (later : Inventory) → added_bytes inventory (bytes x) ≡ Ok later
      → inventory_of (map bytes (take (i + 1) xs)) ≡ Ok later
  inventory_of-next later more =
      ap inventory_of (passed_to bytes xs i x within is)
      ∙ fold-append and_bytes (Ok no_lines) (map bytes (take i xs)) (bytes x ∷ [])
      ∙ ap (λ (r : Result Inventory InventoryFault). and_bytes r (bytes x)) so_far ∙ more

  -- its fault is the first of all
  pub inventory_of-fault : (found : InventoryFault) → added_bytes inventory (bytes x) ≡ Err found
      → inventory_of (map bytes xs) ≡ Err found
  inventory_of-fault found fails =
      ap (λ ys. inventory_of (map bytes ys)) (sym (take-append-drop i xs))
      ∙ ap inventory_of (map-append bytes (take i xs) (drop i xs))
      ∙ fold-append and_bytes (Ok no_lines) (map bytes (take i xs)) (map bytes (drop i xs))
      ∙ ap (λ (r : Result Inventory InventoryFault). fold and_bytes r (map bytes (drop i xs))) so_far
      ∙ ap (λ ys. fold and_bytes (Ok inventory) ys) (rest_from bytes xs i x within is)
      ∙ ap (λ (r : Result Inventory InventoryFault). fold and_bytes r (map bytes (drop (i + 1) xs))) fails
      ∙ fold-err found (map bytes (drop (i + 1) xs))
