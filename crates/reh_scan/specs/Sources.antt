-- From whom an entry can be copied.
use Rattle.std.specs.Prelude.{ℕ, Bool, false, List, slice_get, slice_index}
use Rattle.std.specs.Borrow.{Bor}
use Rattle.std.specs.Option.{option_map_or}
use Rattle.reh_held.specs.Rows.{is_set}
use Rattle.reh_model.specs.Metadata.{Fragment, Metadata}
use Rattle.reh_model.specs.Cluster.{Cluster, Ledger, is_source}
use Rattle.reh_stripe.specs.Masks.{Sizes}

-- whether the entry can be copied from the member at that index
abbrev pub is_source_at : Cluster → Ledger → Fragment → ℕ → ℕ → Bool
is_source_at s g fragment entry index = is_source s g.id entry (slice_index fragment.ensemble index)

-- whether the entry's bit is set in the row at that index
abbrev pub is_set_at : List (Bor (List ℕ)) → ℕ → ℕ → Bool
is_set_at rows entry index = option_map_or (λ row. is_set row.now entry) (slice_get rows index) false

-- the size and the write quorum of the ledger's ensembles
abbrev pub sizes_of : Metadata → Sizes
sizes_of m = record { size = m.size; quorum = m.write_quorum }
