-- Inputs: pictures, and census files.
use Rattle.std.specs.Prelude.{◌≡◌, ℕ, Bool, true, false, nat_eq, List, [], Err, codes}
use Rattle.std.specs.List.{starts_with}
use Rattle.reh_picture.specs.Listings.{Lists, located_listing}
use Rattle.reh_picture.specs.Places.{FailsAt}
use Rattle.reh_picture.specs.declared.listings.Listed.{Listed}
use Rattle.reh_census_file.specs.Canonical.{IsCanonical}
use Rattle.reh_census_file.specs.Texts.{text_of}
use Rattle.reh_census_file.specs.Values.{NamedCensus}
use Rattle.reh_census_file.specs.Whole.{FailsAll, read}
use Rattle.reh_inputs.specs.declared.inputs.Input.{Input}
use Rattle.reh_inputs.specs.declared.inputs.Input.TheVariants.{Picture, Census}
use Rattle.reh_inputs.specs.declared.inputs.InputFault.{InputFault}
use Rattle.reh_inputs.specs.declared.inputs.InputFault.TheVariants as fault

-- whether the bytes begin as a census does
abbrev pub begins_census : List ℕ → Bool
begins_census bytes = starts_with nat_eq bytes (codes "census ")

-- the input that these bytes are
abbrev pub IsRead : List ℕ → Input → Type 0
IsRead bytes (Picture l) = (begins_census bytes ≡ false) × Lists bytes l
IsRead bytes (Census c) = (begins_census bytes ≡ true) × (text_of c ≡ bytes) × IsCanonical c

-- why they are none: what their reader finds
abbrev pub IsFault : List ℕ → InputFault → Type 0
IsFault bytes (fault.Picture located) =
    (begins_census bytes ≡ false) × FailsAt {A = Listed} (Err located) (located_listing bytes)
IsFault bytes (fault.Census found) = (begins_census bytes ≡ true) × FailsAll found (read bytes)

-- what is listed of a picture, and nothing of a census
abbrev pub of_picture : {A : Type 0} → (Listed → List A) → Input → List A
of_picture make (Picture l) = make l
of_picture make (Census c) = []

-- what is listed of a census, and nothing of a picture
abbrev pub of_census : {A : Type 0} → (NamedCensus → List A) → Input → List A
of_census make (Picture l) = []
of_census make (Census c) = make c
