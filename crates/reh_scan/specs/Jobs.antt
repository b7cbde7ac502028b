-- What a scan reads, and what is found in it.
use Rattle.std.specs.Prelude.{◌≡◌, ℕ, ◌*◌, ◌/◌, ◌-◌, ◌<◌, ◌≤◌, Bool, List, [], map, length, slice_index, slice_index_or}
use Rattle.std.specs.Prelude.{Option}
use Rattle.std.specs.List.{find}
use Rattle.std.specs.Option.{option_map}
use Rattle.reh_types.specs.declared.contents.Content.{Content}
use Rattle.reh_types.specs.declared.limits.TheConstants.{MAX_ENSEMBLE_SIZE}
use Rattle.reh_held.specs.Rows.{is_set}
use Rattle.reh_model.specs.Metadata.{Fragment}
use Rattle.reh_model.specs.Cluster.{Cluster, Ledger, is_source}
use Rattle.reh_model.specs.Striping.{write_set, striped_entries}
use Rattle.reh_scan.specs.declared.jobs.Reading.{Reading}
use Rattle.reh_scan.specs.declared.jobs.Job.TheInside.{Inside}

-- whether the member at the index has the entry, by the words from that of the first entry on
abbrev pub has_copy : ℕ → List (List ℕ) → ℕ → ℕ → Bool
has_copy first rows entry index = is_set (slice_index_or rows index []) (entry - 64 * (first / 64))

-- the members' words of the entries from the first up to, not including, the stop, as they are in the cluster
pub record AreCopies (s : Cluster) (ledger first stop : ℕ) (ensemble : List ℕ) (rows : List (List ℕ)) : Type 0 where
  pub size : length rows ≡ length ensemble
  pub same : (index entry : ℕ) → index < length ensemble → first ≤ entry → entry < stop
      → has_copy first rows entry index ≡ is_source s ledger entry (slice_index ensemble index)

-- the first member in the order of the entry's write set that has it
abbrev pub source_in : Reading → ℕ → Option ℕ
source_in r entry =
    option_map (λ i. slice_index r.ensemble i)
    (find (has_copy r.first r.rows.items entry) (write_set entry r.size r.write_quorum))

-- the quorum is one of the ensemble, and each member has a row
pub record IsReading (r : Reading) : Type 0 where
  pub some : 1 ≤ r.write_quorum
  pub within : r.write_quorum ≤ r.size
  pub small : r.size ≤ MAX_ENSEMBLE_SIZE
  pub members : length r.ensemble ≡ r.size
  pub rows : length r.rows.items ≡ r.size

-- what is read of a fragment of the ledger, where it ends at the stop
pub record IsReadingOf (s : Cluster) (g : Ledger) (fragment : Fragment) (stop : ℕ) (r : Reading) : Type 0 where
  pub reading : IsReading r
  pub first : r.first ≡ fragment.first
  pub stop_is : r.stop ≡ stop
  pub size : r.size ≡ g.metadata.size
  pub write_quorum : r.write_quorum ≡ g.metadata.write_quorum
  pub ensemble : r.ensemble ≡ fragment.ensemble
  pub copies : AreCopies s g.id fragment.first stop fragment.ensemble r.rows.items

abbrev pub content_in : Inside → Content
content_in a = record {
  aim = a.aim;
  version = a.version;
  first = a.reading.first;
  stop = a.reading.stop;
  ensemble = a.reading.ensemble;
  sources =
      map (source_in a.reading)
      (striped_entries a.reading.first a.reading.stop a.aim.index a.reading.size a.reading.write_quorum);
}

-- the reading, and an index of its ensemble
pub record IsJob (a : Inside) : Type 0 where
  pub reading : IsReading a.reading
  pub index : a.aim.index < a.reading.size
