-- Lists that are walked along, and the places at which a test passes.
use Rattle.std.proofs.Common.{◌≡◌, ℕ, suc, ◌+◌, ◌<◌, List, [], ◌∷◌, ◌++◌, map, length}
use Rattle.std.proofs.Common.{take, drop, get_or, Option, None, Some, sym, ap, ◌∙◌, add-one}
use Rattle.std.proofs.lemmas.List.{map-append, take_more}
use Rattle.std.proofs.Math.Seq.{drop-cons}
use Rattle.std.specs.Option.{option_or}
use Rattle.serde_json.specs.Data.{Data}
use Rattle.serde_json.specs.View.{view}
use Rattle.serde_json.specs.declared.value.Value.{Value}
use Rattle.reh_inventory_fields.specs.declared.faults.Fault.{Fault}
use Rattle.reh_inventory_fields.specs.declared.places.Place.{Place}
use Rattle.reh_inventory_fields.specs.Faults.{fault_along}

-- what is left of a list, and what was passed, from a place on
module _ {A B : Type 0} (f : A → B) (xs : List A) (i : ℕ) (x : A) (within : i < length xs)
    (is : x ≡ get_or xs i x) where
  pub rest_from : map f (drop i xs) ≡ f x ∷ map f (drop (i + 1) xs)
  rest_from = rw (add-one i) (ap (map f) (drop-cons xs i x within) ∙ ap (λ y. f y ∷ map f (drop (suc i) xs)) (sym is))

  pub passed_to : map f (take (i + 1) xs) ≡ map f (take i xs) ++ f x ∷ []
  passed_to =
      ap (map f) (take_more xs i x within) ∙ map-append f (take i xs) _
      ∙ ap (λ y. map f (take i xs) ++ f y ∷ []) (sym is)

-- The first fault along a list is that of the elements from place i on, each judged with those before it.
abbrev pub IsLeft : (ℕ → List Data → Data → Option (Fault × Place)) → List Value → ℕ → Type 0
IsLeft judge xs i =
    fault_along judge i (map view (take i xs)) (map view (drop i xs)) ≡ fault_along judge 0 [] (map view xs)

module _ (judge : ℕ → List Data → Data → Option (Fault × Place)) (xs : List Value) (i : ℕ) (x : Value)
    (within : i < length xs) (is : x ≡ get_or xs i x) (left : IsLeft judge xs i) where
  from_here : option_or (judge i (map view (take i xs)) (view x))
      (fault_along judge (i + 1) (map view (take (i + 1) xs)) (map view (drop (i + 1) xs)))
      ≡ fault_along judge 0 [] (map view xs)
  from_here =
      ap (λ before.
      option_or (judge i (map view (take i xs)) (view x)) (fault_along judge (i + 1) before (map view (drop (i + 1) xs))))
      (passed_to view xs i x within is)
      ∙ sym (ap (fault_along judge i (map view (take i xs))) (rest_from view xs i x within is)) ∙ left

  -- an element's fault is the first of all
  pub fault_here : (found : Fault × Place) → judge i (map view (take i xs)) (view x) ≡ Some found
      → fault_along judge 0 [] (map view xs) ≡ Some found
  fault_here found here =
      sym from_here
      ∙ ap (λ check.
      option_or check (fault_along judge (i + 1) (map view (take (i + 1) xs)) (map view (drop (i + 1) xs)))) here

  -- where it has none, the first is further on
  pub IsLeft-next : judge i (map view (take i xs)) (view x) ≡ None → IsLeft judge xs (i + 1)
  IsLeft-next good =
      sym (ap (λ check.
      option_or check (fault_along judge (i + 1) (map view (take (i + 1) xs)) (map view (drop (i + 1) xs)))) good)
      ∙ from_here

-- Of each of the first elements one thing was made, and none has a fault.
pub record HasMade {X : Type 0} (judge : ℕ → List Data → Data → Option (Fault × Place)) (made : Data → X)
    (xs : List Value) (i : ℕ) (things : List X) : Type 0 where
  pub things_are : things ≡ map made (map view (take i xs))
  pub left : IsLeft judge xs i

-- the things, after one more
pub HasMade-next : {X : Type 0} (judge : ℕ → List Data → Data → Option (Fault × Place)) (made : Data → X)
    (xs : List Value) (i : ℕ) (x : Value) → i < length xs → x ≡ get_or xs i x
    → (things later : List X) → HasMade judge made xs i things → judge i (map view (take i xs)) (view x) ≡ None
    → later ≡ things ++ made (view x) ∷ [] → HasMade judge made xs (i + 1) later
HasMade-next judge made xs i x within is things later so_far good more = record {
  things_are =
      more ∙ ap (λ ts. ts ++ made (view x) ∷ []) so_far.things_are
      ∙ sym (ap (map made) (passed_to view xs i x within is) ∙ map-append made (map view (take i xs)) _);
  left = IsLeft-next judge xs i x within is so_far.left good;
}
