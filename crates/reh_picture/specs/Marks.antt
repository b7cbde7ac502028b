-- The marks of a picture's bookies and contents. None needs to be there.
use Rattle.std.specs.Prelude.{ℕ, Bool, true, List, [], ◌∷◌, Option, None, Some, Result, Ok}
use Rattle.std.specs.Option.{ok_or, option_map, option_map_or}
use Rattle.std.specs.Result.{result_err, result_unwrap_or}
use Rattle.serde_json.specs.Data.{Data}
use Rattle.serde_json.specs.Find.{get, as_str}
use Rattle.reh_fields.specs.declared.fields.Field.TheVariants as field
use Rattle.reh_fields.specs.declared.faults.PictureFault.{PictureFault}
use Rattle.reh_fields.specs.declared.faults.PictureFault.TheVariants.{WrongKind, Limit}
use Rattle.reh_picture.specs.declared.places.Place.{Place}
use Rattle.reh_picture.specs.declared.places.Place.TheVariants as place
use Rattle.reh_model.specs.Checks.{first_reason, reason_unless}
use Rattle.reh_fields.specs.Names.{is_name}
use Rattle.reh_fields.specs.Fields.{field_name}
use Rattle.reh_fields.specs.Members.{flag_if_there, list_in, list_of, mark_of}
use Rattle.reh_picture.specs.Places.{fault_at, fault_along}

-- a rack, where it is there
abbrev pub rack_if_there : Data → Result (Option (List ℕ)) PictureFault
rack_if_there d =
    option_map_or (λ v. ok_or (option_map Some (as_str v)) (WrongKind field.Rack)) (get (field_name field.Rack) d) (Ok None)

abbrev pub rack_of : Data → Option (List ℕ)
rack_of d = result_unwrap_or (rack_if_there d) None

-- a rack is named as a bookie is
abbrev pub rack_fault : Data → Option PictureFault
rack_fault d =
    first_reason
    (result_err (rack_if_there d) ∷ reason_unless (option_map_or is_name (rack_of d) true) (Limit field.Rack) ∷ [])

-- whether the bookie is read-only, whether it came back without its disk, and its rack, if the picture names it
pub record BookieMarks : Type 0 where
  pub is_read_only : Bool
  pub is_empty : Bool
  pub rack : Option (List ℕ)

abbrev pub bookie_marks : Data → BookieMarks
bookie_marks d = record {
  is_read_only = mark_of d field.ReadOnly;
  is_empty = mark_of d field.Empty;
  rack = rack_of d;
}

abbrev pub bookie_marks_fault : Data → Option PictureFault
bookie_marks_fault d =
    first_reason (
    result_err (flag_if_there d field.ReadOnly)
    ∷ result_err (flag_if_there d field.Empty)
    ∷ rack_fault d
    ∷ [])

-- the first fault of the marks of bookies, and of contents
unfoldable pub each_marks_fault : List Data → Option (PictureFault × Place)
each_marks_fault bookies = fault_along (λ i _ d. fault_at (place.Bookie i) (bookie_marks_fault d)) 0 [] bookies

unfoldable pub each_assumed_fault : List Data → Option (PictureFault × Place)
each_assumed_fault contents =
    fault_along (λ i _ d. fault_at (place.Content i) (result_err (flag_if_there d field.Assumed))) 0 [] contents

-- the first fault of the marks of a picture, in which both lists are
abbrev pub marks_fault : Data → Option (PictureFault × Place)
marks_fault d =
    first_reason (
    fault_at place.Picture (result_err (list_in d field.Bookies))
    ∷ each_marks_fault (list_of d field.Bookies)
    ∷ fault_at place.Picture (result_err (list_in d field.Contents))
    ∷ each_assumed_fault (list_of d field.Contents)
    ∷ [])
