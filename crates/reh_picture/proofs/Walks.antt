-- How walks along lists end: with the first fault, or past the last element.
use Rattle.std.proofs.Common.{◌≡◌, ◌≢◌, ℕ, ◌<◌, ◌≤◌, List, [], map, length, take, take_all, get_or, Option, None, Some}
use Rattle.std.proofs.Common.{sym, ap, subst, ◌∙◌}
use Rattle.std.specs.Prelude.{Result, IsErrAnd}
use Rattle.std.proofs.lemmas.List.{drop_all}
use Rattle.std.proofs.lemmas.Result.{err_from_is_err_and}
use Rattle.serde_json.specs.Data.{Data}
use Rattle.serde_json.specs.View.{view}
use Rattle.serde_json.specs.declared.value.Value.{Value}
use Rattle.reh_fields.specs.declared.faults.PictureFault.{PictureFault}
use Rattle.reh_fields.specs.declared.faults.PictureFault.TheVariants.{NoMemory}
use Rattle.reh_picture.specs.declared.places.Place.{Place}
use Rattle.reh_picture.specs.declared.places.LocatedFault.{LocatedFault}
use Rattle.reh_picture.specs.Places.{fault_along, FailsAt}
use Rattle.reh_picture.proofs.Lists.{IsLeft, HasMade, fault_here}

-- what a call that fails so says of a fault
abbrev pub Names : Option (PictureFault × Place) → LocatedFault → Type 0
Names fault failure = failure.fault ≢ NoMemory → fault ≡ Some (failure.fault, failure.place)

-- a fault that is passed on
pub passed_on : {T : Type 0} (r : Result T LocatedFault) (failure : LocatedFault) (fault : Option (PictureFault × Place))
    → IsErrAnd r (λ passed. passed ≡ failure) → Names fault failure → FailsAt r fault
passed_on {T} r failure fault is named =
    let p = err_from_is_err_and r is in
    subst (λ (s : Result T LocatedFault). FailsAt s fault) (sym p.1)
    (subst (λ (failed : LocatedFault). Names fault failed) (sym p.2) named)

module _ (judge : ℕ → List Data → Data → Option (PictureFault × Place)) (xs : List Value) (i : ℕ) where
  -- past the last element there is no fault
  pub IsLeft-all : length xs ≤ i → IsLeft judge xs i → fault_along judge 0 [] (map view xs) ≡ None
  IsLeft-all past left =
      sym left
      ∙ ap (λ (rest : List Value). fault_along judge i (map view (take i xs)) (map view rest)) (drop_all i xs past)

  -- the fault of an element ends the walk
  pub IsLeft-fails : {T : Type 0} (x : Value) → i < length xs → x ≡ get_or xs i x → IsLeft judge xs i
      → (r : Result T LocatedFault) (failure : LocatedFault) → IsErrAnd r (λ passed. passed ≡ failure)
      → Names (judge i (map view (take i xs)) (view x)) failure → FailsAt r (fault_along judge 0 [] (map view xs))
  IsLeft-fails x within is left r failure fails named =
      passed_on r failure _ fails
      (λ known. fault_here judge xs i x within is left (failure.fault, failure.place) (named known))

-- past the last element one thing was made of each
pub HasMade-all : {X : Type 0} (judge : ℕ → List Data → Data → Option (PictureFault × Place)) (made : Data → X)
    (xs : List Value) (i : ℕ) (things : List X) → length xs ≤ i → HasMade judge made xs i things
    → things ≡ map made (map view xs)
HasMade-all judge made xs i things past so_far =
    so_far.things_are ∙ ap (λ (ys : List Value). map made (map view ys)) (take_all i xs past)
