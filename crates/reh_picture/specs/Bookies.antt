-- The bookies of a picture.
use Rattle.std.specs.Prelude.{ℕ, List, [], ◌∷◌, map, if◌then◌else◌, Option, None, Some}
use Rattle.std.specs.Result.{result_err}
use Rattle.serde_json.specs.Data.{Data}
use Rattle.reh_types.specs.declared.limits.TheConstants.{MAX_BOOKIES}
use Rattle.reh_model.specs.Checks.{first_reason}
use Rattle.reh_fields.specs.declared.fields.Field.TheVariants as field
use Rattle.reh_fields.specs.declared.faults.PictureFault.{PictureFault}
use Rattle.reh_fields.specs.Members.{flag_in, text_of, flag_of, list_of, list_fault}
use Rattle.reh_fields.specs.Names.{new_name_fault}
use Rattle.reh_picture.specs.declared.places.Place.{Place}
use Rattle.reh_picture.specs.declared.places.Place.TheVariants as place
use Rattle.reh_picture.specs.Places.{fault_at, fault_along}

-- the first fault of a bookie that follows the bookies with these names
abbrev pub bookie_fault : List (List ℕ) → Data → Option PictureFault
bookie_fault names d = first_reason (new_name_fault names d ∷ result_err (flag_in d field.Up) ∷ [])

abbrev pub names_in : List Data → List (List ℕ)
names_in bookies = map (λ d. text_of d field.Name) bookies

-- the first fault of bookies
unfoldable pub each_bookie_fault : List Data → Option (PictureFault × Place)
each_bookie_fault bookies =
    fault_along (λ i before d. fault_at (place.Bookie i) (bookie_fault (names_in before) d)) 0 [] bookies

-- what is wrong with a picture's bookies
unfoldable pub bookies_fault : Data → Option (PictureFault × Place)
bookies_fault d =
    first_reason
    (fault_at place.Picture (list_fault d field.Bookies 1 MAX_BOOKIES) ∷ each_bookie_fault (list_of d field.Bookies) ∷ [])

-- a bookie's registration; one that isn't registered was lost at tick 0
abbrev pub registration_in : Data → Option ℕ
registration_in d = if flag_of d field.Up then None else Some 0

abbrev pub registrations_in : List Data → List (Option ℕ)
registrations_in bookies = map registration_in bookies
