-- The names of a picture's bookies, and the bookies that names stand for.
use Rattle.std.specs.Prelude.{ℕ, Bool, not, nat_le, ◌&&◌, List, [], ◌∷◌, length, Option, unwrap_or}
use Rattle.std.specs.Char.{is_ascii_graphic}
use Rattle.std.specs.List.{list_any, list_all}
use Rattle.std.specs.Option.{is_some}
use Rattle.std.specs.Result.{result_err}
use Rattle.std.specs.Str.{bytes_eq}
use Rattle.serde_json.specs.Data.{Data}
use Rattle.reh_types.specs.declared.limits.TheConstants.{MAX_NAME_BYTES}
use Rattle.reh_model.specs.Checks.{first_reason, reason_unless}
use Rattle.reh_model.specs.Cluster.{bookie_named}
use Rattle.reh_fields.specs.declared.fields.Field.TheVariants as field
use Rattle.reh_fields.specs.declared.faults.Repeated.TheVariants as repeated
use Rattle.reh_fields.specs.declared.faults.PictureFault.{PictureFault}
use Rattle.reh_fields.specs.declared.faults.PictureFault.TheVariants.{WrongKind, BadName, Twice, UnknownBookie}
use Rattle.reh_fields.specs.Members.{is_object, text_in, text_of}

-- from 1 byte to the most, each 0x21 to 0x7E
abbrev pub is_name : List ℕ → Bool
is_name name = nat_le 1 (length name) && nat_le (length name) MAX_NAME_BYTES && list_all is_ascii_graphic name

-- what is wrong with a bookie's name by itself
abbrev pub name_fault : Data → Option PictureFault
name_fault d =
    first_reason (
    reason_unless (is_object d) (WrongKind field.Bookie)
    ∷ result_err (text_in d field.Name)
    ∷ reason_unless (is_name (text_of d field.Name)) BadName
    ∷ [])

-- what is wrong with the name of a bookie that follows the bookies with these names
abbrev pub new_name_fault : List (List ℕ) → Data → Option PictureFault
new_name_fault names d =
    first_reason (
    name_fault d
    ∷ reason_unless (not (list_any (bytes_eq (text_of d field.Name)) names))
    (Twice (repeated.Bookie (text_of d field.Name)))
    ∷ [])

-- the bookie of that name; a picture without a fault names only bookies that there are
abbrev pub bookie_in : List (List ℕ) → List ℕ → ℕ
bookie_in names name = unwrap_or (bookie_named names name) 0

-- what is wrong with a name that must be a bookie's
abbrev pub known_fault : List (List ℕ) → List ℕ → Option PictureFault
known_fault names name = reason_unless (is_some (bookie_named names name)) (UnknownBookie name)
