-- What a state has that no field of a picture shows.
use Rattle.std.specs.Prelude.{◌≡◌, not, count_by}
use Rattle.std.specs.Option.{is_some}
use Rattle.reh_model.specs.Cluster.{Cluster}
use Rattle.reh_picture_out.specs.declared.unshown.Unshown.{Unshown}

-- so many ledgers have a task, and so many of the tasks a lock; the clock; and whether AutoRecovery is disabled
pub record IsUnshown (s : Cluster) (u : Unshown) : Type 0 where
  pub tasks : u.tasks ≡ count_by (λ g. is_some g.task) s.parts.ledgers
  pub locks : u.locks ≡ count_by (λ g. is_some g.lock) s.parts.ledgers
  pub clock : u.clock ≡ s.parts.scalars.clock
  pub disabled : u.is_disabled ≡ not s.parts.scalars.enabled
