-- What a `LedgerMeta` stands for.
use Rattle.std.specs.Prelude.{List}
use Rattle.reh_types.specs.declared.names.LedgerState.{LedgerState}
use Rattle.reh_model.specs.Metadata.{Metadata, Fragment, IsMetadata, next_version}
use Rattle.reh_meta.specs.declared.ledgers.LedgerMeta.TheInside.{Inside}

abbrev pub metadata_in : Inside → Metadata
metadata_in a = record {
  size = a.size;
  write_quorum = a.write_quorum;
  ack_quorum = a.ack_quorum;
  state = a.state;
  version = a.version;
  fragments = a.fragments.items;
}

abbrev pub IsMetadataIn : Inside → Type 0
IsMetadataIn a = IsMetadata (metadata_in a)

-- the metadata at the next version, with another state and other fragments
abbrev pub changed_metadata : Metadata → LedgerState → List Fragment → Metadata
changed_metadata m state fragments = next_version (record m { state = state; fragments = fragments })
