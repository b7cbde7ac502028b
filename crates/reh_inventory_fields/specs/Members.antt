-- The members of a line's objects, each as the kind of value that it must be. A member that no definition names is
-- ignored. Of a member that stands in an object twice the last one counts.
use Rattle.std.specs.Prelude.{ℕ, ℤ, Bool, false, nat_le, ◌&&◌, length, List, [], ◌∷◌, option_map, Option, None, Some, Result}
use Rattle.std.specs.Prelude.{Ok, Err, if◌then◌else◌}
use Rattle.std.specs.Option.{ok_or, option_and_then, option_map_or, is_some}
use Rattle.std.specs.Result.{result_unwrap_or, result_err}
use Rattle.serde_json.specs.Data.{Data}
use Rattle.serde_json.specs.Find.{get, as_number, as_u64, as_i64, as_bool, as_str, as_array}
use Rattle.reh_model.specs.Checks.{first_reason, reason_unless}
use Rattle.reh_fields.specs.Members.{elements}
use Rattle.reh_fields.specs.Names.{is_name}
use Rattle.reh_inventory_fields.specs.declared.fields.Field.{Field}
use Rattle.reh_inventory_fields.specs.declared.faults.Fault.{Fault}
use Rattle.reh_inventory_fields.specs.declared.faults.Fault.TheVariants.{Missing, WrongKind, Limit}
use Rattle.reh_inventory_fields.specs.declared.members.TheConstants.{MAX_NUMBER}
use Rattle.reh_inventory_fields.specs.Fields.{field_name}

-- whether the member is there
abbrev pub has : Data → Field → Bool
has d field = is_some (get (field_name field) d)

-- the member, which must be there
abbrev pub member_in : Data → Field → Result Data Fault
member_in d field = ok_or (get (field_name field) d) (Missing field)

-- a member as what it must be
abbrev pub of_kind : {A : Type 0} → (Data → Option A) → Field → Result Data Fault → Result A Fault
of_kind kind field (Ok v) = ok_or (kind v) (WrongKind field)
of_kind kind field (Err fault) = Err fault

abbrev pub number_in : Data → Field → Result ℕ Fault
number_in d field = of_kind (λ v. option_and_then as_u64 (as_number v)) field (member_in d field)

abbrev pub integer_in : Data → Field → Result ℤ Fault
integer_in d field = of_kind (λ v. option_and_then as_i64 (as_number v)) field (member_in d field)

abbrev pub flag_in : Data → Field → Result Bool Fault
flag_in d field = of_kind as_bool field (member_in d field)

abbrev pub text_in : Data → Field → Result (List ℕ) Fault
text_in d field = of_kind as_str field (member_in d field)

abbrev pub list_in : Data → Field → Result (List Data) Fault
list_in d field = of_kind (λ v. option_map elements (as_array v)) field (member_in d field)

-- a member that needn't be there and is true or false: false where it isn't there
abbrev pub flag_if_there : Data → Field → Result Bool Fault
flag_if_there d field = option_map_or (λ v. ok_or (as_bool v) (WrongKind field)) (get (field_name field) d) (Ok false)

-- the members, where they are as they must be

abbrev pub number_of : Data → Field → ℕ
number_of d field = result_unwrap_or (number_in d field) 0

abbrev pub flag_of : Data → Field → Bool
flag_of d field = result_unwrap_or (flag_in d field) false

abbrev pub mark_of : Data → Field → Bool
mark_of d field = result_unwrap_or (flag_if_there d field) false

abbrev pub text_of : Data → Field → List ℕ
text_of d field = result_unwrap_or (text_in d field) []

abbrev pub list_of : Data → Field → List Data
list_of d field = result_unwrap_or (list_in d field) []

-- what is wrong with a member that must be a number within these bounds
abbrev pub number_fault : Data → Field → ℕ → ℕ → Option Fault
number_fault d field least most =
    first_reason
    (result_err (number_in d field)
    ∷ reason_unless (nat_le least (number_of d field) && nat_le (number_of d field) most) (Limit field) ∷ [])

-- and with a number that needn't be there
abbrev pub number_if_there_fault : Data → Field → Option Fault
number_if_there_fault d field = if has d field then number_fault d field 0 MAX_NUMBER else None

abbrev pub number_if_there : Data → Field → Option ℕ
number_if_there d field = if has d field then Some (number_of d field) else None

-- what is wrong with a member that must be a list with a number of elements within these bounds
abbrev pub list_fault : Data → Field → ℕ → ℕ → Option Fault
list_fault d field least most =
    first_reason
    (result_err (list_in d field)
    ∷ reason_unless (nat_le least (length (list_of d field)) && nat_le (length (list_of d field)) most) (Limit field)
    ∷ [])

-- what is wrong with a text that must be a name: of 1 to 300 bytes, each 0x21 to 0x7E
abbrev pub text_fault : Field → List ℕ → Option Fault
text_fault field text = reason_unless (is_name text) (Limit field)

-- and with a member that must be one
abbrev pub name_fault : Data → Field → Option Fault
name_fault d field = first_reason (result_err (text_in d field) ∷ text_fault field (text_of d field) ∷ [])

-- and with a name that needn't be there
abbrev pub name_if_there_fault : Data → Field → Option Fault
name_if_there_fault d field = if has d field then name_fault d field else None

abbrev pub name_if_there : Data → Field → Option (List ℕ)
name_if_there d field = if has d field then Some (text_of d field) else None
