-- Contents of bookies that came back empty.
use Rattle.std.specs.Prelude.{◌≡◌, ℕ, Bool, false, ◌&&◌, All, length, nat_lt, slice_get}
use Rattle.std.specs.Option.{option_map_or}
use Rattle.reh_picture.specs.Contents.{Holding}
use Rattle.reh_picture.specs.Marks.{BookieMarks}
use Rattle.reh_picture.specs.declared.listings.Listed.{Listed}
use Rattle.reh_inputs.specs.declared.inputs.Input.{Input}
use Rattle.reh_inputs.specs.declared.inputs.Input.TheVariants.{Picture, Census}

-- whether a picture shows the bookie of that number as empty
abbrev pub is_shown_empty : Listed → ℕ → Bool
is_shown_empty l b = option_map_or (λ (marks : BookieMarks). marks.is_empty) (slice_get l.marks.items b) false

-- whether an empty bookie is said to hold entries
abbrev pub holds_though_empty : Listed → Holding → Bool
holds_though_empty l h = is_shown_empty l h.bookie && nat_lt 0 (length h.ranges)

-- no empty bookie of a picture is said to hold entries
abbrev pub EmptyHoldNothing : Listed → Type 0
EmptyHoldNothing l = All (λ h. holds_though_empty l h ≡ false) l.listing.holdings.items

-- nor of an input, if it is one
abbrev pub EmptiesHoldNothing : Input → Type 0
EmptiesHoldNothing (Picture l) = EmptyHoldNothing l
EmptiesHoldNothing (Census c) = Unit {0}
