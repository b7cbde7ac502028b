-- The members of a picture's objects, each as the kind of value that it must be.
use Rattle.std.specs.Prelude.{ℕ, ℤ, Bool, false, nat_le, ◌&&◌, length, List, [], ◌∷◌, option_map, Option, Result, Ok}
use Rattle.std.specs.Prelude.{Err}
use Rattle.std.specs.Option.{ok_or, option_and_then, option_map_or, is_some}
use Rattle.std.specs.Result.{result_unwrap_or, result_err}
use Rattle.serde_json.specs.Data.{Data, Items, no_items, item}
use Rattle.serde_json.specs.Find.{get, as_number, as_u64, as_i64, as_bool, as_str, as_array, as_object}
use Rattle.reh_fields.specs.declared.fields.Field.{Field}
use Rattle.reh_fields.specs.declared.faults.PictureFault.{PictureFault}
use Rattle.reh_fields.specs.declared.faults.PictureFault.TheVariants.{Missing, WrongKind, Limit}
use Rattle.reh_fields.specs.Fields.{field_name}
use Rattle.reh_model.specs.Checks.{first_reason, reason_unless}

-- the elements of a JSON list
abbrev pub elements : Items → List Data
elements no_items = []
elements (item d ds) = d ∷ elements ds

-- whether it is an object
abbrev pub is_object : Data → Bool
is_object d = is_some (as_object d)

-- the member, which must be there
abbrev pub member_in : Data → Field → Result Data PictureFault
member_in d field = ok_or (get (field_name field) d) (Missing field)

-- a member as what it must be
abbrev pub of_kind : {A : Type 0} → (Data → Option A) → Field → Result Data PictureFault → Result A PictureFault
of_kind kind field (Ok v) = ok_or (kind v) (WrongKind field)
of_kind kind field (Err fault) = Err fault

abbrev pub number_in : Data → Field → Result ℕ PictureFault
number_in d field = of_kind (λ v. option_and_then as_u64 (as_number v)) field (member_in d field)

abbrev pub integer_in : Data → Field → Result ℤ PictureFault
integer_in d field = of_kind (λ v. option_and_then as_i64 (as_number v)) field (member_in d field)

abbrev pub flag_in : Data → Field → Result Bool PictureFault
flag_in d field = of_kind as_bool field (member_in d field)

abbrev pub text_in : Data → Field → Result (List ℕ) PictureFault
text_in d field = of_kind as_str field (member_in d field)

abbrev pub list_in : Data → Field → Result (List Data) PictureFault
list_in d field = of_kind (λ v. option_map elements (as_array v)) field (member_in d field)

-- the members, where they are as they must be

abbrev pub number_of : Data → Field → ℕ
number_of d field = result_unwrap_or (number_in d field) 0

abbrev pub flag_of : Data → Field → Bool
flag_of d field = result_unwrap_or (flag_in d field) false

abbrev pub text_of : Data → Field → List ℕ
text_of d field = result_unwrap_or (text_in d field) []

abbrev pub list_of : Data → Field → List Data
list_of d field = result_unwrap_or (list_in d field) []

-- what is wrong with a member that must be a number within these bounds
abbrev pub number_fault : Data → Field → ℕ → ℕ → Option PictureFault
number_fault d field least most =
    first_reason
    (result_err (number_in d field)
    ∷ reason_unless (nat_le least (number_of d field) && nat_le (number_of d field) most) (Limit field) ∷ [])

-- what is wrong with a member that must be a list with a number of elements within these bounds
abbrev pub list_fault : Data → Field → ℕ → ℕ → Option PictureFault
list_fault d field least most =
    first_reason
    (result_err (list_in d field)
    ∷ reason_unless (nat_le least (length (list_of d field)) && nat_le (length (list_of d field)) most) (Limit field)
    ∷ [])

-- a member that needn't be there and is true or false: false where it isn't there
abbrev pub flag_if_there : Data → Field → Result Bool PictureFault
flag_if_there d field = option_map_or (λ v. ok_or (as_bool v) (WrongKind field)) (get (field_name field) d) (Ok false)

abbrev pub mark_of : Data → Field → Bool
mark_of d field = result_unwrap_or (flag_if_there d field) false
