-- The first line of an inventory. Beside what each field must be it is settled here:
-- * `grace` and `lostDelayTicks` must be there;
-- * `held` needn't be there, and says `striped` where it is;
-- * `taken` isn't `-`, which stands in a census for no time;
-- * there is at least one bookie, and each has another name.
use Rattle.std.specs.Prelude.{ℕ, Bool, not, ◌&&◌, List, [], ◌∷◌, map, codes, if◌then◌else◌, Option, None}
use Rattle.std.specs.List.{list_any}
use Rattle.std.specs.Result.{result_err}
use Rattle.std.specs.Str.{bytes_eq}
use Rattle.serde_json.specs.Data.{Data}
use Rattle.reh_types.specs.declared.limits.TheConstants.{MAX_DELAY, MAX_GRACE}
use Rattle.reh_model.specs.Checks.{first_reason, reason_if, reason_unless}
use Rattle.reh_fields.specs.Members.{is_object}
use Rattle.reh_census_file.specs.declared.lists.TheConstants.{MAX_NAMES}
use Rattle.reh_inventory_fields.specs.declared.fields.Field.TheVariants as field
use Rattle.reh_inventory_fields.specs.declared.faults.Fault.{Fault}
use Rattle.reh_inventory_fields.specs.declared.faults.Fault.TheVariants.{WrongKind, Limit, Twice}
use Rattle.reh_inventory.specs.declared.heads.Bookie.{Bookie}
use Rattle.reh_inventory.specs.declared.heads.Head.{Head}
use Rattle.reh_inventory_fields.specs.declared.places.Place.{Place}
use Rattle.reh_inventory_fields.specs.declared.places.Place.TheVariants as place
use Rattle.reh_inventory_fields.specs.Faults.{fault_at, fault_along}
use Rattle.reh_inventory_fields.specs.Members.{has, flag_in, text_in, flag_if_there, number_of, flag_of, mark_of, text_of, list_of}
use Rattle.reh_inventory_fields.specs.Members.{number_fault, list_fault, name_fault, name_if_there_fault, name_if_there}

-- Bookies

-- the first fault of a bookie that follows the bookies with these names
abbrev pub bookie_fault : List (List ℕ) → Data → Option Fault
bookie_fault names d =
    first_reason (
    reason_unless (is_object d) (WrongKind field.Bookie)
    ∷ name_fault d field.Name
    ∷ reason_unless (not (list_any (bytes_eq (text_of d field.Name)) names)) (Twice field.Name)
    ∷ result_err (flag_in d field.Up)
    ∷ result_err (flag_if_there d field.ReadOnly)
    ∷ result_err (flag_if_there d field.Empty)
    ∷ name_if_there_fault d field.Rack
    ∷ [])

abbrev pub bookie_in : Data → Bookie
bookie_in d = record {
  name = text_of d field.Name;
  is_up = flag_of d field.Up;
  is_read_only = mark_of d field.ReadOnly;
  is_empty = mark_of d field.Empty;
  rack = name_if_there d field.Rack;
}

abbrev pub names_in : List Data → List (List ℕ)
names_in bookies = map (λ d. text_of d field.Name) bookies

-- the first fault of bookies
unfoldable pub each_bookie_fault : List Data → Option (Fault × Place)
each_bookie_fault bookies =
    fault_along (λ i before d. fault_at (place.Bookie i) (bookie_fault (names_in before) d)) 0 [] bookies

-- The first line

abbrev pub taken_fault : Data → Option Fault
taken_fault d =
    first_reason
    (name_if_there_fault d field.Taken
    ∷ reason_if (has d field.Taken && bytes_eq (text_of d field.Taken) (codes "-")) (Limit field.Taken) ∷ [])

abbrev pub held_fault : Data → Option Fault
held_fault d =
    if has d field.Held
    then first_reason
    (result_err (text_in d field.Held)
    ∷ reason_unless (bytes_eq (text_of d field.Held) (codes "striped")) (WrongKind field.Held) ∷ [])
    else None

-- what is wrong before the bookies
abbrev pub before_bookies : Data → Option Fault
before_bookies d =
    first_reason (
    number_fault d field.Inventory 1 1
    ∷ taken_fault d
    ∷ number_fault d field.Grace 0 MAX_GRACE
    ∷ number_fault d field.LostDelayTicks 0 MAX_DELAY
    ∷ held_fault d
    ∷ list_fault d field.Bookies 1 MAX_NAMES
    ∷ [])

-- the first fault of the first line
abbrev pub head_fault : Data → Option (Fault × Place)
head_fault d =
    first_reason (fault_at place.Line (before_bookies d) ∷ each_bookie_fault (list_of d field.Bookies) ∷ [])

-- whether members of which no content tells are assumed to hold what is striped onto them
abbrev pub assumes_striped : Data → Bool
assumes_striped d = has d field.Held

abbrev pub head_in : Data → Head
head_in d = record {
  taken = name_if_there d field.Taken;
  grace = number_of d field.Grace;
  delay = number_of d field.LostDelayTicks;
  assumes_striped = assumes_striped d;
  bookies = map bookie_in (list_of d field.Bookies);
}
