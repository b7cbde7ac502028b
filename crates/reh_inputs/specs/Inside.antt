-- What a `Cluster` stands for.
use Rattle.std.specs.Prelude.{◌≡◌, length}
use Rattle.reh_inputs.specs.Cluster.{Cluster}
use Rattle.reh_inputs.specs.declared.cluster.Cluster.TheInside.{Inside}

abbrev pub cluster_in : Inside → Cluster
cluster_in c = record { names = c.names; shown = c.shown.items }

-- each bookie is shown
abbrev pub IsClusterIn : Inside → Type 0
IsClusterIn c = length c.shown.items ≡ length c.names
