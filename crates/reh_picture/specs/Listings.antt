-- What a picture lists, for questions about its cluster, or its first fault.
use Rattle.std.specs.Prelude.{◌≡◌, ℕ, List, [], ◌∷◌, map, Option, None, Some, Result, Ok, Err}
use Rattle.serde_json.specs.Data.{Data}
use Rattle.reh_model.specs.Checks.{first_reason}
use Rattle.reh_fields.specs.declared.fields.Field.TheVariants as field
use Rattle.reh_fields.specs.declared.faults.PictureFault.{PictureFault}
use Rattle.reh_fields.specs.Members.{list_of}
use Rattle.reh_picture.specs.declared.listings.Listed.{Listed}
use Rattle.reh_picture.specs.declared.places.Place.{Place}
use Rattle.reh_picture.specs.Marks.{bookie_marks, marks_fault}
use Rattle.reh_picture.specs.Pictures.{IsListed, fields_fault, json_in}

-- the first fault, with its place: those of a rehearsal's picture, and then those of the marks
abbrev pub listing_fault : Data → Option (PictureFault × Place)
listing_fault d = first_reason (fields_fault d ∷ marks_fault d ∷ [])

-- what the fields of a picture without a fault list, and their marks
pub record ListsFields (d : Data) (l : Listed) : Type 0 where
  pub faultless : listing_fault d ≡ None
  pub listing : IsListed d l.listing.names l.listing.lost_at.items l.listing.ticks.grace l.listing.ticks.delay
      l.listing.ledgers.items l.listing.holdings.items
  pub marks : l.marks.items ≡ map bookie_marks (list_of d field.Bookies)

abbrev pub ListsJson : Result Data (PictureFault × Place) → Listed → Type 0
ListsJson (Ok d) l = ListsFields d l
ListsJson (Err found) l = ⊥

-- what a picture lists
abbrev pub Lists : List ℕ → Listed → Type 0
Lists bytes l = ListsJson (json_in bytes) l

abbrev pub located_json : Result Data (PictureFault × Place) → Option (PictureFault × Place)
located_json (Ok d) = listing_fault d
located_json (Err found) = Some found

abbrev pub located_listing : List ℕ → Option (PictureFault × Place)
located_listing bytes = located_json (json_in bytes)
