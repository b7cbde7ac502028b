-- The places of ensembles that are found.
use Rattle.std.specs.Prelude.{◌≡◌, length, Some, slice_get}
use Rattle.reh_types.specs.declared.names.Aim.{Aim}
use Rattle.reh_model.specs.Metadata.{stripe_of}
use Rattle.reh_model.specs.Cluster.{Cluster}
use Rattle.reh_scan.specs.Places.{IsFound}
use Rattle.reh_step.specs.declared.decisions.EnsemblePlace.{EnsemblePlace}

-- the aim's ledger and its fragment, with an ensemble of the ledger's size, and the entries that it stripes onto the
-- index
pub record IsPlace (s : Cluster) (aim : Aim) (place : EnsemblePlace) : Type 0 where
  pub found : IsFound s aim.ledger place.found
  pub fragment : slice_get place.found.ledger.now.metadata.fragments aim.fragment ≡ Some place.fragment.now
  pub whole : length place.fragment.now.ensemble ≡ place.found.ledger.now.metadata.size
  pub entries : place.entries ≡ stripe_of place.found.ledger.now.metadata aim.fragment aim.index
