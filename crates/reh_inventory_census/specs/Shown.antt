-- What a line tells of each entry of its ledger, and when a ledger of a census says just that. Of an entry and a bookie it
-- may be told that the bookie holds the entry, `Some true`, that it doesn't, `Some false`, or nothing, `None`.
use Rattle.std.specs.Prelude.{◌≡◌, ◌<◌, ◌≤◌, ℕ, Bool, true, not, ◌&&◌, ◌||◌, ◌⊎◌, List, [], ◌∷◌, length, map, if◌then◌else◌}
use Rattle.std.specs.Prelude.{Option, None, Some, slice_get}
use Rattle.std.specs.List.{list_any}
use Rattle.std.specs.Option.{is_some, option_map_or}
use Rattle.std.specs.Str.{bytes_eq}
use Rattle.reh_census.specs.declared.ledgers.Range.{Range}
use Rattle.reh_census.specs.declared.ledgers.Told.{Told}
use Rattle.reh_census.specs.declared.ledgers.Told.TheVariants as told
use Rattle.reh_census.specs.Ledgers.{Ledger, is_within, told_of}
use Rattle.reh_census.specs.Striping.{range}
use Rattle.reh_inventory.specs.declared.contents.Content.{Content}
use Rattle.reh_inventory.specs.declared.contents.Entries.{Entries}
use Rattle.reh_inventory.specs.declared.contents.Entries.TheVariants.{Holds, Lacks}
use Rattle.reh_inventory.specs.declared.ledgers.LedgerLine.{LedgerLine}
use Rattle.reh_inventory_census.specs.Counted.{first_of, fragment_of, number_in, reading_of, stop_of}

-- The line

-- whether a content that speaks of these entries alone, if it says so, speaks of the entry
abbrev pub speaks_of : ℕ → Option (List Range) → Bool
speaks_of entry None = true
speaks_of entry (Some ranges) = list_any (is_within entry) ranges

-- ranges that a bookie lacks tell of an entry of a fragment that stops that the bookie holds it or not, and of one of a
-- fragment without a stop nothing
abbrev pub entries_say : Bool → ℕ → Entries → Option Bool
entries_say stops entry (Holds ranges) = Some (list_any (is_within entry) ranges)
entries_say stops entry (Lacks ranges) = if stops then Some (not (list_any (is_within entry) ranges)) else None

-- a content says nothing of entries of which it doesn't speak; where it is assumed, it says nothing in a strict reading,
-- and nothing of a fragment without a stop
abbrev pub content_says : Bool → Bool → ℕ → Content → Option Bool
content_says strict stops entry content =
    if speaks_of entry content.told && not (content.is_assumed && (strict || not stops))
    then entries_say stops entry content.entries else None

-- of a member without a content it may be assumed that it holds the entries of fragments that stop
abbrev pub rest_says : Bool → Bool → Bool → Option Bool
rest_says assumes strict stops = if assumes && not strict && stops then Some true else None

-- what contents say of an entry that is striped onto the bookie of this name
abbrev pub contents_say : Bool → Bool → Bool → ℕ → List ℕ → List Content → Option Bool
contents_say assumes strict stops entry name [] = rest_says assumes strict stops
contents_say assumes strict stops entry name (content ∷ contents) =
    if bytes_eq content.bookie name then content_says strict stops entry content
    else contents_say assumes strict stops entry name contents

-- the names of the members of the fragment of this number
abbrev pub ensemble_of : LedgerLine → ℕ → List (List ℕ)
ensemble_of line f = option_map_or (λ fragment. fragment.ensemble) (slice_get line.fragments f) []

-- The ledger

-- what a census's ledger says of an entry that is striped onto a bookie
abbrev pub told_says : ℕ → Told → Option Bool
told_says entry (told.Holds ranges) = Some (list_any (is_within entry) ranges)
told_says entry (told.Lacks ranges) = Some (not (list_any (is_within entry) ranges))
told_says entry told.Untold = None

-- The ledger's fragments are the line's, each up to its stop, or, where it has none, to the end of what is told. Of each of
-- their entries and each member of the ensemble that has a number, the ledger says what the line says, where members
-- without a content may be assumed to hold what is striped onto them.
pub record Shows (names : List (List ℕ)) (assumes strict : Bool) (line : LedgerLine) (g : Ledger) : Type 0 where
  pub fragments : g.fragments
      ≡ map (fragment_of names (reading_of strict line).end line) (range 0 (length line.fragments))
  pub says : (f entry : ℕ) (name : List ℕ) → f < length line.fragments → first_of line f ≤ entry
      → entry < (fragment_of names (reading_of strict line).end line f).stop
      → list_any (bytes_eq name) (ensemble_of line f) ≡ true → number_in names name < 65535
      → told_says entry (told_of g (number_in names name))
      ≡ contents_say assumes strict (is_some (stop_of line f)) entry name line.contents

-- The same, but for bookies of which the ledger says nothing.
pub record SaysNoMore (names : List (List ℕ)) (assumes strict : Bool) (line : LedgerLine) (g : Ledger) : Type 0 where
  pub fragments : g.fragments
      ≡ map (fragment_of names (reading_of strict line).end line) (range 0 (length line.fragments))
  pub says : (f entry : ℕ) (name : List ℕ) → f < length line.fragments → first_of line f ≤ entry
      → entry < (fragment_of names (reading_of strict line).end line f).stop → number_in names name < 65535
      → (told_says entry (told_of g (number_in names name)) ≡ None)
      ⊎ (told_says entry (told_of g (number_in names name))
      ≡ contents_say assumes strict (is_some (stop_of line f)) entry name line.contents)
