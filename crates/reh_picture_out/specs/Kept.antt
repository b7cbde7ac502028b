-- What a picture keeps of a cluster.
use Rattle.std.specs.Prelude.{ℕ, Option, None, true, map}
use Rattle.std.specs.Option.{option_map}
use Rattle.reh_model.specs.Contents.{Contents, greatest_held}
use Rattle.reh_model.specs.Cluster.{Cluster, Ledger, cluster_of}
use Rattle.reh_picture.specs.Contents.{words_to}

-- A bookie that isn't registered counts as lost at tick 0, whenever it was lost.
abbrev pub lost_at_start : Option ℕ → Option ℕ
lost_at_start lost = option_map (λ _. 0) lost

-- a ledger with its id and its metadata, without its task and its lock, and with the words that reach its greatest entry
abbrev pub bare_ledger : Contents → Ledger → Ledger
bare_ledger held g = record {
  id = g.id;
  metadata = g.metadata;
  words = words_to (greatest_held held g.id);
  task = None;
  lock = None;
}

-- The cluster that is left: the same names, grace, delay, ledgers' ids and metadata, and contents; each bookie is
-- registered where it was. There is no task and no lock, the clock is at 0, and AutoRecovery is enabled.
abbrev pub kept_of : Cluster → Cluster
kept_of s =
    cluster_of s.names (map lost_at_start s.parts.lost_at) s.grace s.delay true
    (map (bare_ledger s.parts.held) s.parts.ledgers) s.parts.held
