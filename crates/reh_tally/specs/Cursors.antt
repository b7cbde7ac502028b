-- What is told of members, from an entry on.
use Rattle.std.specs.Prelude.{◌≡◌, ℕ, ◌<◌, ◌≤◌, ◌⊎◌, Bool, true, false, List, [], map, slice_get, slice_index_or}
use Rattle.std.specs.Option.{option_map_or}
use Rattle.reh_census.specs.declared.ledgers.Range.{Range}
use Rattle.reh_census.specs.declared.ledgers.Told.{Told}
use Rattle.reh_census.specs.declared.ledgers.Told.TheVariants.{Holds, Lacks, Untold}
use Rattle.reh_census.specs.Ledgers.{Ledger, is_held, told_of}
use Rattle.reh_tally.specs.declared.cursors.Cursor.{Cursor}
use Rattle.reh_tally.specs.declared.ranges.Stretch.{Stretch}
use Rattle.reh_tally.specs.Stretches.{ArePassed, AreRising, IsEnd}

-- what the content of this number tells; past the last one, what holds of the rest
abbrev pub told_at : Ledger → ℕ → Told
told_at g content = option_map_or (λ found. found.told) (slice_get g.contents content) g.rest

abbrev pub ranges_of : Told → List Range
ranges_of (Holds ranges) = ranges
ranges_of (Lacks ranges) = ranges
ranges_of Untold = []

-- whose flag is set, its ranges are rising
abbrev pub AreRisings : Ledger → List Bool → Type 0
AreRisings g risings = (content : ℕ) → slice_index_or risings content false ≡ true → AreRising (ranges_of (told_at g content))

-- each entry from this one up to the end is held by a bookie of which this is told, and onto which it is striped, or none
-- is; and the ranges that are passed end before
pub record IsToldFrom (told : Told) (at : ℕ) (stretch : Stretch) : Type 0 where
  pub passed : ArePassed (ranges_of told) stretch.passed at
  pub same : (entry : ℕ) → at ≤ entry → entry < stretch.end → is_held entry told ≡ stretch.is_held

-- the cursor tells of its bookie from the entry on
pub record IsCursor (g : Ledger) (at : ℕ) (cursor : Cursor) : Type 0 where
  pub told : told_at g cursor.content ≡ told_of g cursor.bookie
  pub rising : cursor.is_rising ≡ true → AreRising (ranges_of (told_at g cursor.content))
  pub stretch : IsToldFrom (told_at g cursor.content) at cursor.stretch

-- the entry is the stop, or one at which a range of the cursor's bookie begins, or right before which one ends
abbrev pub EndsAt : Ledger → ℕ → ℕ → Cursor → Type 0
EndsAt g stop entry cursor = IsEnd (ranges_of (told_at g cursor.content)) stop entry

-- the cursor tells of no entry from this one on, or up to such an end
abbrev pub IsFar : Ledger → ℕ → ℕ → Cursor → Type 0
IsFar g at stop cursor = (cursor.stretch.end ≤ at) ⊎ EndsAt g stop cursor.stretch.end cursor

-- the bookies that the cursors tell of
abbrev pub members_of : List Cursor → List ℕ
members_of cursors = map (λ cursor. cursor.bookie) cursors
