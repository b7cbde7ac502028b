-- The ledgers that are found.
use Rattle.std.specs.Prelude.{◌≡◌, ℕ, ◌==◌, Some, position}
use Rattle.reh_model.specs.Cluster.{Cluster, ledger_at}
use Rattle.reh_model.specs.WellFormed.{IsWellFormed}
use Rattle.reh_scan.specs.declared.places.Found.{Found}

-- the ledger of that id in a well-formed cluster, and the place at which it stands
pub record IsFound (s : Cluster) (l : ℕ) (found : Found) : Type 0 where
  pub well_formed : IsWellFormed s
  pub place : position (λ g. g.id == l) s.parts.ledgers ≡ Some found.place
  pub ledger : ledger_at s l ≡ Some found.ledger.now
