-- What lines tell of two states, and what events keep, so that no line has to tell it.
use Rattle.std.specs.Prelude.{◌≡◌, ℕ, ◌/◌, ◌==◌, ◌&&◌, not, length, slice_get, Some}
use Rattle.reh_types.specs.declared.changes.Change.TheVariants as change
use Rattle.reh_model.specs.Metadata.{Metadata, Fragment}
use Rattle.reh_model.specs.Cluster.{Cluster, Ledger, holds}
use Rattle.reh_model.specs.Places.{Change}
use Rattle.reh_changes.specs.Changes.{is_gained, is_gone}
use Rattle.reh_changes.specs.Ranges.{is_in_one, ranges_in}

-- both begin at the same entry, and have as many members
abbrev pub HaveOneFrame : Fragment → Fragment → Type 0
HaveOneFrame was now = (was.first ≡ now.first) × (length was.ensemble ≡ length now.ensemble)

-- Metadata of one ledger at two times: the ensemble size and the quorums are the same, and a fragment that both have
-- begins at the same entry and has as many members.
pub record AreOfOneLedger (was now : Metadata) : Type 0 where
  pub size : was.size ≡ now.size
  pub write_quorum : was.write_quorum ≡ now.write_quorum
  pub ack_quorum : was.ack_quorum ≡ now.ack_quorum
  pub fragments : (f : ℕ) (a b : Fragment) → slice_get was.fragments f ≡ Some a → slice_get now.fragments f ≡ Some b
      → HaveOneFrame a b

-- so is the metadata of the ledgers that stand at one place of the picture
abbrev pub HaveSameLedgers : Cluster → Cluster → Type 0
HaveSameLedgers s t = (i : ℕ) (g h : Ledger) → slice_get s.parts.ledgers i ≡ Some g
    → slice_get t.parts.ledgers i ≡ Some h → AreOfOneLedger g.metadata h.metadata

-- of 64 entries of a ledger, the first ranges have those that the bookie holds now and did not hold before, and the second
-- ranges those that it held before and doesn't now
abbrev pub TellsEntries : Cluster → Cluster → Change → Type 0
TellsEntries now before (change.Word b l k bits) = (e : ℕ) →
    (is_in_one (ranges_in k (is_gained now b l k bits)) e
    ≡ ((e / 64 == k) && (holds now b l e && not (holds before b l e))))
    × (is_in_one (ranges_in k (is_gone now b l k bits)) e
    ≡ ((e / 64 == k) && (holds before b l e && not (holds now b l e))))
TellsEntries now before other = Unit {0}
