-- Where an open ledger's next entry would go, and where its recovery ends it: what BookKeeper's `LedgerRecoveryOp`
-- reads and writes back, from the last fragment on.
use Rattle.std.specs.Prelude.{ℕ, ◌+◌, max, Bool, not, ◌==◌, List, map, unwrap_or}
use Rattle.std.specs.List.{filter, find, flat_map}
use Rattle.std.specs.Option.{option_map_or}
use Rattle.reh_types.specs.Sets as set
use Rattle.reh_model.specs.Striping.{range}
use Rattle.reh_model.specs.Contents.{Contents, greatest_held}
use Rattle.reh_model.specs.Metadata.{last_fragment, writes}
use Rattle.reh_model.specs.Cluster.{Cluster, Ledger, is_up, is_readable, ledger_at}

-- the writer's next entry: one more than the greatest that any bookie holds, registered or not, and no less than the
-- last fragment's first
abbrev pub next_entry : Cluster → Ledger → ℕ
next_entry s g =
    let first = (last_fragment g.metadata).first in
    option_map_or (λ greatest. max first (greatest + 1)) (greatest_held s.parts.held g.id) first

-- whether a changed ensemble needs a new fragment: some entry of the last one is held
abbrev pub is_rolling_over : Cluster → Ledger → Bool
is_rolling_over s g = not (next_entry s g == (last_fragment g.metadata).first)

-- the registered members of an entry's write set in the last fragment, in the order of their ranks
abbrev pub up_writes : Cluster → Ledger → ℕ → List ℕ
up_writes s g entry = filter (is_up s) (writes g.metadata (last_fragment g.metadata) entry)

-- the first entry of the last fragment that can't be read; nobody holds the next entry
abbrev pub recovered_end : Cluster → Ledger → ℕ
recovered_end s g =
    let last = last_fragment g.metadata in
    unwrap_or (find (λ e. not (is_readable s g last e)) (range last.first (next_entry s g))) (next_entry s g)

-- the entries that a recovery passes, all of which can be read
abbrev pub recovered_entries : Cluster → Ledger → List ℕ
recovered_entries s g = range (last_fragment g.metadata).first (recovered_end s g)

-- (bookie, ledger, entry) for each entry that a recovery passes and each registered member of its write set
abbrev pub recovered_copies : Cluster → Ledger → Contents
recovered_copies s g = set.from_list (flat_map (λ e. map (λ b. (b, g.id, e)) (up_writes s g e)) (recovered_entries s g))

-- the same, of the ledger of that id; nothing, where there is none
abbrev pub recovered_at : Cluster → ℕ → Contents
recovered_at s l = option_map_or (recovered_copies s) (ledger_at s l) set.empty
