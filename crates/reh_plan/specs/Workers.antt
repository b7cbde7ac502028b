-- Who may do a plan's work, and whether writers do some of it; and how much bookies hold.
use Rattle.std.specs.Prelude.{ℕ, ◌+◌, ◌-◌, ◌*◌, ◌/◌, ◌^◌, min, Bool, List, length, not, ◌&&◌, slice_get, slice_index, slice_set}
use Rattle.std.specs.Option.{option_map_or}
use Rattle.reh_types.specs.Sets as set
use Rattle.reh_types.specs.Sets.{Set, numbers}
use Rattle.reh_model.specs.Cluster.{Cluster, Ledger, is_up}
use Rattle.reh_model.specs.Metadata.{Metadata, last_fragment, stop_of}
use Rattle.reh_model.specs.Recovery.{next_entry}
use Rattle.reh_plan.specs.Racks.{Racks}

-- which bookies are allowed to do AutoRecovery's work, and which are read-only; and whether the writers of open ledgers change
-- ensembles themselves, so that nobody fences their ledgers
pub record Rules : Type 0 where
  pub allowed : Set numbers
  pub read_only : Set numbers
  pub writers_roll : Bool

abbrev pub rules_by : Set numbers → Set numbers → Bool → Rules
rules_by allowed read_only writers_roll =
    record { allowed = allowed; read_only = read_only; writers_roll = writers_roll }

-- whether a bookie may do that work
abbrev pub may_work : Rules → ℕ → Bool
may_work rules bookie = set.contains rules.allowed bookie && not (set.contains rules.read_only bookie)

-- whether the bookie may do that work, and is registered
abbrev pub can_work : (ℕ → Bool) → Cluster → ℕ → Bool
can_work may s bookie = may bookie && is_up s bookie

-- the rules, in which racks bookies stand, and how many entries each bookie holds, with about those that it has copied since
pub record Workers : Type 0 where
  pub rules : Rules
  pub racks : Racks
  pub loads : List ℕ

-- the bookie holds so many entries more, as far as they can be counted
abbrev pub with_load : Workers → ℕ → ℕ → Workers
with_load workers bookie entries = record workers {
  loads = slice_set workers.loads bookie (min (slice_index workers.loads bookie + entries) (2 ^ 64 - 1));
}

-- How many entries a place has

-- about how many of so many entries a member of an ensemble has, as each is written to a write quorum of them
abbrev pub share : Metadata → ℕ → ℕ
share m entries = entries * m.write_quorum / m.size

-- of those of a fragment, 0 if these aren't known
abbrev pub share_at : Metadata → ℕ → ℕ
share_at m f =
    option_map_or (λ fragment. option_map_or (λ stop. share m (stop - fragment.first)) (stop_of m f) 0) (slice_get m.fragments f) 0

-- the same of the ledger at that place of the picture
abbrev pub share_in : Cluster → ℕ → ℕ → ℕ
share_in s place f = option_map_or (λ g. share_at g.metadata f) (slice_get s.parts.ledgers place) 0

-- of those of its last fragment, if its writer goes on now
abbrev pub share_to_roll : Cluster → ℕ → ℕ
share_to_roll s place =
    option_map_or (λ g. share g.metadata (next_entry s g - (last_fragment g.metadata).first)) (slice_get s.parts.ledgers place) 0

-- the number of that ledger's last fragment
abbrev pub last_in : Cluster → ℕ → ℕ
last_in s place = option_map_or (λ g. length g.metadata.fragments - 1) (slice_get s.parts.ledgers place) 0
