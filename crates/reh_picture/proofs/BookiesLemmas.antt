-- Along the bookies of a picture.
use Rattle.std.proofs.Common.{◌≡◌, ℕ, ◌+◌, ◌<◌, List, [], ◌∷◌, ◌++◌, map, length, take, get_or}
use Rattle.std.proofs.Common.{Option, None, Some, refl, sym, ap, ◌∙◌, arith, length-append}
use Rattle.std.proofs.lemmas.List.{map-append}
use Rattle.serde_json.specs.Data.{Data}
use Rattle.serde_json.specs.View.{view}
use Rattle.serde_json.specs.declared.value.Value.{Value}
use Rattle.reh_fields.specs.declared.faults.PictureFault.{PictureFault}
use Rattle.reh_fields.specs.declared.fields.Field.TheVariants as field
use Rattle.reh_fields.specs.Members.{text_of}
use Rattle.reh_picture.specs.declared.places.Place.{Place}
use Rattle.reh_picture.specs.declared.places.Place.TheVariants as place
use Rattle.reh_picture.specs.Places.{fault_at}
use Rattle.reh_picture.specs.Bookies.{bookie_fault, each_bookie_fault, names_in, registration_in, registrations_in}
use Rattle.reh_picture.proofs.Lists.{passed_to, IsLeft, IsLeft-next, fault_here}

-- a bookie is judged with the names of those before it
abbrev pub judge : ℕ → List Data → Data → Option (PictureFault × Place)
judge i before d = fault_at (place.Bookie i) (bookie_fault (names_in before) d)

-- What was read of the first bookies: their names and their registrations, and no fault.
pub record HasRead (bookies : List Value) (i : ℕ) (names : List (List ℕ)) (lost_at : List (Option ℕ)) : Type 0 where
  pub names_are : names ≡ names_in (map view (take i bookies))
  pub lost_are : lost_at ≡ registrations_in (map view (take i bookies))
  pub count : length names ≡ i
  pub left : IsLeft judge bookies i

-- nothing was read yet
pub HasRead-none : (bookies : List Value) → HasRead bookies 0 [] []
HasRead-none bookies = record { names_are = refl; lost_are = refl; count = refl; left = refl }

-- names and registrations after one more bookie
module _ (bookies : List Value) (i : ℕ) (names : List (List ℕ)) (lost_at : List (Option ℕ)) (bookie : Value) where
  module _ (read : HasRead bookies i names lost_at) (within : i < length bookies)
      (is : bookie ≡ get_or bookies i bookie) where
    pub bookie_fault_here : (found : PictureFault × Place)
        → fault_at (place.Bookie i) (bookie_fault names (view bookie)) ≡ Some found
        → each_bookie_fault (map view bookies) ≡ Some found
    unfolding each_bookie_fault
    bookie_fault_here found here =
        fault_here judge bookies i bookie within is read.left found
        (ap (λ ns. fault_at (place.Bookie i) (bookie_fault ns (view bookie))) (sym read.names_are) ∙ here)

    pub HasRead-next : (later : List (List ℕ)) (after : List (Option ℕ))
        → fault_at (place.Bookie i) (bookie_fault names (view bookie)) ≡ None
        → later ≡ names ++ text_of (view bookie) field.Name ∷ []
        → after ≡ lost_at ++ registration_in (view bookie) ∷ [] → HasRead bookies (i + 1) later after
    HasRead-next later after good named registered =
        let ds = map view (take i bookies) in
        let passed : map view (take (i + 1) bookies) ≡ ds ++ view bookie ∷ [] =
        passed_to view bookies i bookie within is in
        record {
          names_are =
              named ∙ ap (λ ns. ns ++ text_of (view bookie) field.Name ∷ []) read.names_are
              ∙ sym (ap names_in passed ∙ map-append (λ d. text_of d field.Name) ds _);
          lost_are =
              registered ∙ ap (λ ls. ls ++ registration_in (view bookie) ∷ []) read.lost_are
              ∙ sym (ap registrations_in passed ∙ map-append registration_in ds _);
          count =
              omega (arith, ap length named, length-append names (text_of (view bookie) field.Name ∷ []), read.count);
          left =
              IsLeft-next judge bookies i bookie within is read.left
              (ap (λ ns. fault_at (place.Bookie i) (bookie_fault ns (view bookie))) (sym read.names_are) ∙ good);
        }
