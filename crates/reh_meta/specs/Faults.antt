-- The first rule that would-be metadata breaks.
use Rattle.std.specs.Prelude.{ℕ, List, [], ◌∷◌, Option, None, Some}
use Rattle.std.specs.List.{list_all}
use Rattle.reh_types.specs.declared.names.LedgerState.{LedgerState}
use Rattle.reh_model.specs.Metadata.{Fragment, Metadata, are_quorums, rise_from_zero, is_ensemble, ends_within}
use Rattle.reh_model.specs.Checks.{reason_unless, first_reason}
use Rattle.reh_meta.specs.declared.faults.MetaFault.{MetaFault}
use Rattle.reh_meta.specs.declared.faults.MetaFault.TheVariants.{BadQuorum, BadFragment, BadEnsemble, BadLast, NoMemory}
use Rattle.reh_meta.specs.declared.ledgers.Sizes.{Sizes}

-- the metadata of these parts, whether or not they keep the rules
abbrev pub metadata_of : Sizes → LedgerState → ℕ → List Fragment → Metadata
metadata_of sizes state version fragments = record {
  size = sizes.ensemble;
  write_quorum = sizes.write_quorum;
  ack_quorum = sizes.ack_quorum;
  state = state;
  version = version;
  fragments = fragments;
}

-- the first rule that is broken, if there is one
abbrev pub fault_of : Metadata → Option MetaFault
fault_of m = first_reason (
    reason_unless (are_quorums m.size m.write_quorum m.ack_quorum) BadQuorum
    ∷ reason_unless (rise_from_zero m.fragments) BadFragment
    ∷ reason_unless (list_all (λ fragment. is_ensemble m.size fragment.ensemble) m.fragments) BadEnsemble
    ∷ reason_unless (ends_within m.state m.fragments) BadLast
    ∷ [])

-- the broken rule that a fault tells of; out of memory tells of none
abbrev pub fault_found : MetaFault → Option MetaFault
fault_found NoMemory = None
fault_found fault = Some fault
