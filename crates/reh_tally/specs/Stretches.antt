-- Entries from one on, over which what is told stays the same.
use Rattle.std.specs.Prelude.{◌≡◌, ℕ, ◌+◌, ◌<◌, ◌≤◌, ◌⊎◌, Any, List, length, slice_index_or}
use Rattle.std.specs.List.{list_any}
use Rattle.reh_census.specs.declared.ledgers.Range.{Range}
use Rattle.reh_census.specs.Ledgers.{is_within}
use Rattle.reh_tally.specs.declared.ranges.Stretch.{Stretch}

-- each range has an entry, and ends before those after it begin
pub record AreRising (ranges : List Range) : Type 0 where
  pub some : (k : ℕ) (d : Range) → k < length ranges → (slice_index_or ranges k d).first ≤ (slice_index_or ranges k d).last
  pub order : (k n : ℕ) (d : Range) → k < n → n < length ranges
      → (slice_index_or ranges k d).last < (slice_index_or ranges n d).first

-- so many ranges end before the entry
abbrev pub ArePassed : List Range → ℕ → ℕ → Type 0
ArePassed ranges passed at = (k : ℕ) (d : Range) → k < passed → (slice_index_or ranges k d).last < at

-- a range begins at the entry, or ends right before
abbrev pub IsEndOf : ℕ → Range → Type 0
IsEndOf entry range = (range.first ≡ entry) ⊎ (range.last + 1 ≡ entry)

-- the entry is the stop, or one at which a range begins, or right before which one ends
abbrev pub IsEnd : List Range → ℕ → ℕ → Type 0
IsEnd ranges stop entry = (entry ≡ stop) ⊎ Any (IsEndOf entry) ranges

-- each entry from this one up to the end is in one of the ranges, or none is; and those that are passed end before
pub record IsStretch (ranges : List Range) (at : ℕ) (stretch : Stretch) : Type 0 where
  pub passed : ArePassed ranges stretch.passed at
  pub same : (entry : ℕ) → at ≤ entry → entry < stretch.end → list_any (is_within entry) ranges ≡ stretch.is_held
