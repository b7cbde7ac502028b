-- What is judged along the lists of marked bookies and contents.
use Rattle.std.proofs.Common.{ℕ, List, Option}
use Rattle.std.specs.Result.{result_err}
use Rattle.serde_json.specs.Data.{Data}
use Rattle.reh_fields.specs.declared.fields.Field.TheVariants as field
use Rattle.reh_fields.specs.declared.faults.PictureFault.{PictureFault}
use Rattle.reh_picture.specs.declared.places.Place.{Place}
use Rattle.reh_picture.specs.declared.places.Place.TheVariants as place
use Rattle.reh_picture.specs.Marks.{bookie_marks_fault}
use Rattle.reh_fields.specs.Members.{flag_if_there}
use Rattle.reh_picture.specs.Places.{fault_at}

abbrev pub bookie_marks_at : ℕ → List Data → Data → Option (PictureFault × Place)
bookie_marks_at i before d = fault_at (place.Bookie i) (bookie_marks_fault d)

abbrev pub assumed_at : ℕ → List Data → Data → Option (PictureFault × Place)
assumed_at i before d = fault_at (place.Content i) (result_err (flag_if_there d field.Assumed))
