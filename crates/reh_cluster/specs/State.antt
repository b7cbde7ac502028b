-- What a `State` stands for.
use Rattle.std.specs.Prelude.{◌≡◌, length, map}
use Rattle.reh_model.specs.Cluster.{Cluster}
use Rattle.reh_model.specs.WellFormed.{IsWellFormed}
use Rattle.reh_cluster.specs.declared.states.State.TheInside.{Inside}

abbrev pub cluster_in : Inside → Cluster
cluster_in s = record { names = s.names; grace = s.grace; delay = s.delay; parts = s.parts.parts }

-- the cluster is well-formed, its ledgers are found by their ids, and there are rows for each bookie
pub record IsState (s : Inside) : Type 0 where
  pub cluster : IsWellFormed (cluster_in s)
  pub ids : s.ids.keys ≡ map (λ g. g.id) s.parts.parts.ledgers
  pub bookies : s.parts.bookies ≡ length s.names
